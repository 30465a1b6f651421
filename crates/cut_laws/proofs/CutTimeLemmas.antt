-- The nets that a placed net is cut into time to its slack and its polarities.
use Rattle.std.proofs.Common.{◌≡◌, ◌≢◌, ℕ, ◌+◌, ◌<◌, Bool, true, false, List, refl, sym, ap, ◌∙◌, subst, cond, arith, inl, inr, Option, None, Some, is_some, length, map, get_or, ℤ, pos, ◌+ℤ◌, ◌-ℤ◌, ◌≤ℤ◌, All, Contains}
use Rattle.std.proofs.lemmas.Bool.{cases_lt, false≢true}
use Rattle.std.proofs.lemmas.List.{length-map, get_or-map, get_or_past}
use Rattle.std.proofs.lemmas.List.Elements.{All-get_or}
use Rattle.elmore.specs.Cells.{cell_delay, is_inverter}
use Rattle.elmore.specs.Delay.{is_odd}
use Rattle.elmore.specs.Problems.{sink_of}
use Rattle.elmore.specs.Legal.{IsPlaced}
use Rattle.elmore.specs.Placements.{IsSlack, IsSinkAt, HasPolarity, load_of, slack_at, delay_between, inverters_between}
use Rattle.elmore.specs.declared.rep.Rep.{Rep}
use Rattle.elmore.specs.declared.parts.Sink.{Sink}
use Rattle.elmore.specs.declared.problem.Problem.{Problem}
use Rattle.elmore.proofs.StageThroughLemmas.{stage_inner, stage_ended}
use Rattle.elmore.proofs.PathLemmas.{over_self}
use Rattle.elmore.proofs.HeadLemmas.{head_of, head_above}
use Rattle.cut_laws.specs.Walks.{nothing, sink, Signal, end_at, late_at, start_of, IsWalk, Meets, slack_behind, IsRetimed, HavePolarity}
use Rattle.cut_laws.specs.CutNets.{forest_of, is_inside, Pieces, net_at, sink_end, cell_end, end_of, Begins, IsCutAt, AreCut}
use Rattle.cut_laws.proofs.PieceLemmas.{piece_cases, stage_in_piece}
use Rattle.cut_laws.proofs.PieceDelayLemmas.{below_root, none_at_parent}
use Rattle.cut_laws.proofs.BreadthLemmas.{found, found_all, found_once, found_short, found_covers}
use Rattle.cut_laws.proofs.CutWalkLemmas.{stands_at, signal_of, own, begin_late, late_there, inverters_there, children, child_of_end, are_children, reached_are}
use Rattle.cut_laws.proofs.OneWalkLemmas.{one_walk}
use Rattle.cut_laws.proofs.ProblemLemmas.{parent_in, cell_in, falls_in, rooted_in}

-- where pieces begin, in the order of the walk, and the signals there
abbrev heads : Problem → List (Option ℕ) → Pieces → List ℕ
heads p cells pieces = found (children p cells pieces) (length p.tree.nodes)

abbrev signals_of : Problem → List (Option ℕ) → Pieces → List Signal
signals_of p cells pieces = map (signal_of p cells pieces) (heads p cells pieces)

begins_each : (p : Problem) (cells : List (Option ℕ)) (pieces : Pieces) → AreCut p cells pieces
    → All (Begins p cells) (heads p cells pieces)
begins_each p cells pieces cut =
    found_all (children p cells pieces) (Begins p cells) (length p.tree.nodes) (are_children p cells pieces cut) (length p.tree.nodes)

the_walk : (p : Problem) (cells : List (Option ℕ)) (pieces : Pieces) → IsPlaced p cells → AreCut p cells pieces
    → IsWalk pieces.nets (start_of (pieces.net_of 0) p.driver) (signals_of p cells pieces)
the_walk p cells pieces is_placed cut = record {
  k = length p.tree.nodes;
  come = sym (reached_are p cells pieces is_placed cut (length p.tree.nodes));
  ended =
      omega (
        arith,
        length-map (heads p cells pieces) (signal_of p cells pieces),
        found_short (children p cells pieces) (Begins p cells) (length p.tree.nodes) (are_children p cells pieces cut) (length p.tree.nodes),
      );
  once = λ i j d i_j j_n same.
      let j_m : j < length (heads p cells pieces) = omega (arith, length-map (heads p cells pieces) (signal_of p cells pieces)) in
      let i_m : i < length (heads p cells pieces) = omega arith in
      found_once (children p cells pieces) (Begins p cells) (length p.tree.nodes) (are_children p cells pieces cut) (length p.tree.nodes) i j 0 i_j j_m
      (cut.once (get_or (heads p cells pieces) i 0) (get_or (heads p cells pieces) j 0)
      (All-get_or (Begins p cells) (heads p cells pieces) i 0 i_m (begins_each p cells pieces cut))
      (All-get_or (Begins p cells) (heads p cells pieces) j 0 j_m (begins_each p cells pieces cut))
      (ap (λ (s : Signal). s.net) (sym (get_or-map (signal_of p cells pieces) (heads p cells pieces) i 0 d i_m))
      ∙ same
      ∙ ap (λ (s : Signal). s.net) (get_or-map (signal_of p cells pieces) (heads p cells pieces) j 0 d j_m)));
}

-- in the piece of v, which begins there, the sink stands at a node of the stage
record IsMet (p : Problem) (cells : List (Option ℕ)) (pieces : Pieces) (v w : ℕ) (goal : Sink) : Type 0 where
  pub begins : Begins p cells v
  pub node : w < length (net_at pieces v).tree
  pub inside : is_inside p cells v (pieces.at v w) ≡ true
  pub there : sink_of p.sinks (pieces.at v w) ≡ Some goal

is_goal : (o : Option Sink) (goal : Sink) → sink_end o ≡ sink goal → o ≡ Some goal
is_goal None goal e = absurd (cc)
is_goal (Some g) goal e = cc

no_goal : (o : Option Rep) (net : ℕ) (goal : Sink) → cell_end o net ≡ sink goal → ⊥
no_goal None net goal e = absurd (cc)
no_goal (Some rep) net goal e = absurd (cc)

met_here : (p : Problem) (cells : List (Option ℕ)) (pieces : Pieces) → AreCut p cells pieces
    → (v : ℕ) → Begins p cells v → (w : ℕ) (goal : Sink) → end_at (net_at pieces v) w ≡ sink goal → IsMet p cells pieces v w goal
met_here p cells pieces cut v b w goal here =
    let c : IsCutAt p cells pieces v = cut.each v b in
    let node : w < length (net_at pieces v).tree =
    elim (cases_lt w (length (net_at pieces v).ends)) [
      | inl low ↦ omega (arith, c.one_each)
      | inr high ↦ let clash : nothing ≡ sink goal = sym (get_or_past (net_at pieces v).ends w nothing high) ∙ here in absurd (cc)
    ] in
    elim (piece_cases (forest_of p cells) v (pieces.at v w) (c.piece.inside w node)) [
      | inl inside ↦ record {
        begins = b;
        node = node;
        inside = inside;
        there =
            is_goal (sink_of p.sinks (pieces.at v w)) goal
            (sym (ap (stands_at p cells pieces (pieces.at v w)) inside)
            ∙ sym (c.ends w node) ∙ here);
      }
      | inr ends ↦
          absurd (no_goal (cell_in p cells (pieces.at v w)) (pieces.net_of (pieces.at v w)) goal
          (sym (ap (stands_at p cells pieces (pieces.at v w))
          (stage_ended (parent_in p) (cell_in p cells) (falls_in p) v (pieces.at v w) ends (pieces.at v w)
          (over_self (parent_in p) (falls_in p) (pieces.at v w))))
          ∙ sym (c.ends w node) ∙ here))
    ]

-- a signal of the walk is that of a piece
signal_is : (p : Problem) (cells : List (Option ℕ)) (pieces : Pieces) → AreCut p cells pieces
    → (s : Signal) → Contains (signals_of p cells pieces) s → (v : ℕ) × Begins p cells v × (s ≡ signal_of p cells pieces v)
signal_is p cells pieces cut s (j, j_n, e) =
    let j_m : j < length (heads p cells pieces) = omega (arith, length-map (heads p cells pieces) (signal_of p cells pieces)) in (
      get_or (heads p cells pieces) j 0,
      All-get_or (Begins p cells) (heads p cells pieces) j 0 j_m (begins_each p cells pieces cut),
      sym e ∙ get_or-map (signal_of p cells pieces) (heads p cells pieces) j 0 s j_m,
    )

-- in its stage a node below the root has no cell
bare_inside : (p : Problem) (cells : List (Option ℕ)) (pieces : Pieces) → AreCut p cells pieces
    → (v w : ℕ) (goal : Sink) → IsMet p cells pieces v w goal → (f : Option Rep → ℕ) → f None ≡ 0 → below_root w (f (cell_in p cells (pieces.at v w))) ≡ 0
bare_inside p cells pieces cut v w goal m f zero_at =
    none_at_parent w (f (cell_in p cells (pieces.at v w)))
    (λ w_0.
    none (cell_in p cells (pieces.at v w))
    (stage_inner (parent_in p) (cell_in p cells) (falls_in p) v (pieces.at v w) m.inside (other w_0)).here)
  where
    other : 0 < w → pieces.at v w ≢ v
    other w_0 e =
        let c : IsCutAt p cells pieces v = cut.each v m.begins in
        absurd (omega (arith, c.piece.once w 0 m.node c.piece.a_tree.some_node (e ∙ sym c.piece.root)))

    none : (o : Option Rep) → is_some o ≡ false → f o ≡ 0
    none None e = zero_at
    none (Some rep) e = absurd (false≢true (sym e))

-- its slack is that in the placement
slack_is : (p : Problem) (cells : List (Option ℕ)) (pieces : Pieces) → IsPlaced p cells → AreCut p cells pieces
    → (v w : ℕ) (goal : Sink) → IsMet p cells pieces v w goal
    → slack_behind pieces.nets p.driver (signal_of p cells pieces v) w goal ≡ slack_at p cells (pieces.at v w) goal
slack_is p cells pieces is_placed cut v w goal m =
    ap (λ (t : ℕ). goal.required -ℤ p.driver.arrival -ℤ (p.driver.k +ℤ pos t))
    (same
    (late_at (net_at pieces v) (signal_of p cells pieces v) w)
    (below_root w (own p cells (pieces.at v w)))
    (begin_late p cells + delay_between p cells 0 (pieces.at v w))
    (late_there p cells pieces is_placed v m.begins (cut.each v m.begins) w m.node)
    (bare_inside p cells pieces cut v w goal m (λ o. cell_delay o (load_of p cells (pieces.at v w))) refl))
  where
    same : (a b c : ℕ) → a + b ≡ c → b ≡ 0 → a ≡ c
    same a b c e z = omega arith

-- and its polarity too
signal_inverters : (p : Problem) (cells : List (Option ℕ)) (pieces : Pieces) → AreCut p cells pieces
    → (v w : ℕ) (goal : Sink) → IsMet p cells pieces v w goal
    → inverters_between p cells 0 v ≡ inverters_between p cells 0 (pieces.at v w)
signal_inverters p cells pieces cut v w goal m =
    omega (
      arith,
      inverters_there p cells v (net_at pieces v).tree (pieces.at v) m.begins (cut.each v m.begins).piece w m.node,
      bare_inside p cells pieces cut v w goal m (λ o. cond (is_inverter o) 1 0) refl,
    )

-- each sink of the problem is met
sink_met : (p : Problem) (cells : List (Option ℕ)) (pieces : Pieces) → IsPlaced p cells → AreCut p cells pieces
    → (u : ℕ) (goal : Sink) → IsSinkAt p u goal
    → (v : ℕ) × (w : ℕ) × Begins p cells v × (pieces.at v w ≡ u) × Meets pieces.nets (signals_of p cells pieces) (signal_of p cells pieces v) w goal
sink_met p cells pieces is_placed cut u goal there =
    let (v, h) = head_of (parent_in p) (length p.tree.nodes) (rooted_in p) (cell_in p cells) u u_n in
    let b : Begins p cells v = record { node = h.within; head = h.head } in
    let c : IsCutAt p cells pieces v = cut.each v b in
    let (w, w_m, at_w) = c.piece.each u u_n (stage_in_piece (forest_of p cells) v u h.inside) in (
      v,
      w,
      b,
      at_w,
      record {
        come = in_map v (found_covers (children p cells pieces) (Begins p cells) (length p.tree.nodes) (are_children p cells pieces cut) above v b);
        here =
            c.ends w w_m
            ∙ ap (end_of p cells pieces v) at_w
            ∙ ap (λ (t : Bool). cond t (sink_end (sink_of p.sinks u)) (cell_end (cell_in p cells u) (pieces.net_of u))) h.inside
            ∙ ap sink_end there;
      },
    )
  where
    u_n : u < length p.tree.nodes
    u_n =
        elim (cases_lt u (length p.sinks)) [
          | inl low ↦ omega (arith, p.sinks_each)
          | inr high ↦ let clash : ◌≡◌ {A = Option Sink} None (Some goal) = sym (get_or_past p.sinks u None high) ∙ there in absurd (cc)
        ]

    in_map : (v : ℕ) → Contains (heads p cells pieces) v → Contains (signals_of p cells pieces) (signal_of p cells pieces v)
    in_map v (j, j_m, e) = (
      j,
      omega (arith, length-map (heads p cells pieces) (signal_of p cells pieces)),
      get_or-map (signal_of p cells pieces) (heads p cells pieces) j v (signal_of p cells pieces v) j_m ∙ ap (signal_of p cells pieces) e,
    )

    above : (h : ℕ) → Begins p cells h → 0 < h → (v : ℕ) × Begins p cells v × (v < h) × Contains (children p cells pieces v) h
    above h b h_0 =
        let (v, e) = head_above (parent_in p) (length p.tree.nodes) (rooted_in p) (cell_in p cells) h b.head h_0 b.node in
        let d : Begins p cells v = record { node = e.within; head = e.head } in
        (v, d, e.smaller, child_of_end p cells pieces v h (cut.each v d) b.node e.ends)

-- the nets re-time to the slack of the placement
pub cut_retimes : (p : Problem) (cells : List (Option ℕ)) (pieces : Pieces) → IsPlaced p cells → AreCut p cells pieces
    → (x : ℤ) → IsSlack p cells x → IsRetimed pieces.nets (pieces.net_of 0) p.driver x
cut_retimes p cells pieces is_placed cut x slack = record {
  signals = signals_of p cells pieces;
  walk = the_walk p cells pieces is_placed cut;
  least = λ s w goal m.
      let (v, b, is) = signal_is p cells pieces cut s m.come in
      let met : IsMet p cells pieces v w goal =
      met_here p cells pieces cut v b w goal (ap (λ (t : Signal). end_at (pieces.nets t.net) w) (sym is) ∙ m.here) in
      subst (λ (y : ℤ). x ≤ℤ y)
      (sym (slack_is p cells pieces is_placed cut v w goal met) ∙ ap (λ (t : Signal). slack_behind pieces.nets p.driver t w goal) (sym is))
      (slack.least (pieces.at v w) goal met.there);
  met =
      let (u, goal, there, is) = slack.met in
      let (v, w, b, at_w, m) = sink_met p cells pieces is_placed cut u goal there in (
        signal_of p cells pieces v,
        w,
        goal,
        m,
        is
            ∙ ap (λ t. slack_at p cells t goal) (sym at_w)
            ∙ sym (slack_is p cells pieces is_placed cut v w goal (met_here p cells pieces cut v b w goal m.here)),
      );
}

-- their sinks have the polarity that the placement gives them
pub cut_wanted : (p : Problem) (cells : List (Option ℕ)) (pieces : Pieces) → IsPlaced p cells → AreCut p cells pieces
    → ((w : ℕ) → HasPolarity p cells w) → HavePolarity pieces.nets (pieces.net_of 0) p.driver
cut_wanted p cells pieces is_placed cut wanted = record {
  signals = signals_of p cells pieces;
  walk = the_walk p cells pieces is_placed cut;
  wanted = λ s w goal m.
      let (v, b, is) = signal_is p cells pieces cut s m.come in
      let met : IsMet p cells pieces v w goal =
      met_here p cells pieces cut v b w goal (ap (λ (t : Signal). end_at (pieces.nets t.net) w) (sym is) ∙ m.here) in
      ap (λ (t : Signal). is_odd t.inverters) is
      ∙ ap is_odd (signal_inverters p cells pieces cut v w goal met)
      ∙ wanted (pieces.at v w) goal met.there;
}

-- every walk over the nets is this one
walked : (p : Problem) (cells : List (Option ℕ)) (pieces : Pieces) → IsPlaced p cells → AreCut p cells pieces
    → (signals : List Signal) → IsWalk pieces.nets (start_of (pieces.net_of 0) p.driver) signals → signals_of p cells pieces ≡ signals
walked p cells pieces is_placed cut signals walk =
    one_walk pieces.nets (start_of (pieces.net_of 0) p.driver) (signals_of p cells pieces) signals (the_walk p cells pieces is_placed cut) walk

-- so they re-time to no other slack
pub cut_slack : (p : Problem) (cells : List (Option ℕ)) (pieces : Pieces) → IsPlaced p cells → AreCut p cells pieces
    → (x : ℤ) → IsRetimed pieces.nets (pieces.net_of 0) p.driver x → IsSlack p cells x
cut_slack p cells pieces is_placed cut x timed = record {
  least = λ u goal there.
      let (v, w, b, at_w, m) = sink_met p cells pieces is_placed cut u goal there in
      subst (λ (y : ℤ). x ≤ℤ y)
      (slack_is p cells pieces is_placed cut v w goal (met_here p cells pieces cut v b w goal m.here) ∙ ap (λ t. slack_at p cells t goal) at_w)
      (timed.least (signal_of p cells pieces v) w goal
      (subst (λ (xs : List Signal). Meets pieces.nets xs (signal_of p cells pieces v) w goal)
      (walked p cells pieces is_placed cut timed.signals timed.walk) m));
  met =
      let (s, w, goal, m, is) = timed.met in
      let (v, b, s_is) =
      signal_is p cells pieces cut s
      (subst (λ (xs : List Signal). Contains xs s) (sym (walked p cells pieces is_placed cut timed.signals timed.walk)) m.come) in
      let met : IsMet p cells pieces v w goal =
      met_here p cells pieces cut v b w goal (ap (λ (t : Signal). end_at (pieces.nets t.net) w) (sym s_is) ∙ m.here) in (
        pieces.at v w,
        goal,
        met.there,
        is ∙ ap (λ (t : Signal). slack_behind pieces.nets p.driver t w goal) s_is ∙ slack_is p cells pieces is_placed cut v w goal met,
      );
}

-- nor have they another polarity
pub cut_polarity : (p : Problem) (cells : List (Option ℕ)) (pieces : Pieces) → IsPlaced p cells → AreCut p cells pieces
    → HavePolarity pieces.nets (pieces.net_of 0) p.driver → (w : ℕ) → HasPolarity p cells w
cut_polarity p cells pieces is_placed cut right u goal there =
    let (v, w, b, at_w, m) = sink_met p cells pieces is_placed cut u goal there in
    ap (λ t. is_odd (inverters_between p cells 0 t)) (sym at_w)
    ∙ ap is_odd (sym (signal_inverters p cells pieces cut v w goal (met_here p cells pieces cut v b w goal m.here)))
    ∙ right.wanted (signal_of p cells pieces v) w goal
    (subst (λ (xs : List Signal). Meets pieces.nets xs (signal_of p cells pieces v) w goal) (walked p cells pieces is_placed cut right.signals right.walk) m)
