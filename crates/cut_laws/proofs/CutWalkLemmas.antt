-- The walk over the nets that a placed net is cut into: what comes to each of them, and in which order.
use Rattle.std.proofs.Common.{◌≡◌, ◌≢◌, ℕ, zero, suc, ◌-◌, ◌+◌, ◌*◌, ◌<◌, ◌≤◌, Bool, true, List, [], ◌∷◌, ◌++◌, refl, sym, ap, ◌∙◌, subst, cond, arith, inl, inr, Option, None, Some, is_some, length, map, slice_get, filter_map, option_map, Contains}
use Rattle.std.proofs.lemmas.Bool.{cases_eq, false≢true}
use Rattle.std.proofs.lemmas.List.{map-append}
use Rattle.std.proofs.lemmas.Option.{slice_get-map, cond_some}
use Rattle.elmore.specs.Path.{is_over, nodes as node_numbers}
use Rattle.elmore.specs.Cells.{cell_delay, is_inverter}
use Rattle.elmore.specs.Trees.{resistance, capacitance}
use Rattle.elmore.specs.Wire.{delay_in}
use Rattle.elmore.specs.Problems.{sink_of}
use Rattle.elmore.specs.Legal.{IsPlaced}
use Rattle.elmore.specs.Placements.{load_of, delay_between, inverters_between}
use Rattle.elmore.specs.declared.tree.Node.{Node}
use Rattle.elmore.specs.declared.rep.Rep.{Rep}
use Rattle.elmore.specs.declared.parts.Sink.{Sink}
use Rattle.elmore.specs.declared.problem.Problem.{Problem}
use Rattle.elmore.proofs.PathLemmas.{over_le, over_self}
use Rattle.elmore.proofs.RootLemmas.{root_over}
use Rattle.elmore.proofs.PlacedDelayLemmas.{delay_self, delay_below, delay_through}
use Rattle.elmore.proofs.PlacedInverterLemmas.{step_inverters, inverters_self, inverters_through}
use Rattle.elmore.proofs.StageThroughLemmas.{end_inner, end_other, stage_ended, end_over}
use Rattle.elmore.proofs.HeadLemmas.{head_cell, head_other, one_end}
use Rattle.cut_laws.specs.Pieces.{IsPieceOf}
use Rattle.cut_laws.specs.Walks.{End, TimedNet, Signal, end_at, late_at, passed, passed_on, passed_on_by, reached, start_of}
use Rattle.cut_laws.specs.CutNets.{forest_of, is_end, Pieces, net_at, sink_end, cell_end, end_of, Begins, IsCutAt, AreCut}
use Rattle.cut_laws.proofs.PieceLemmas.{piece_cases, end_in_piece, over_piece, stage_no_end}
use Rattle.cut_laws.proofs.PieceLoadLemmas.{piece_root_load}
use Rattle.cut_laws.proofs.PieceDelayLemmas.{below_root, at_node, piece_delay, piece_inverters}
use Rattle.cut_laws.proofs.BreadthLemmas.{children_of, found, AreChildren, at_some, found_all}
use Rattle.cut_laws.proofs.FilterMapLemmas.{filter_mapped, filter_from, filter_has, filter_once}
use Rattle.cut_laws.proofs.ProblemLemmas.{parent_in, cell_in, falls_in, rooted_in, root_bare, begins_root}

-- the resistance of a cell, or of the driver at the root
abbrev pub behind : ℕ → Option Rep → ℕ
behind r None = r
behind r (Some rep) = rep.r

-- the driver's delay by its load; when the driver of v's piece would give the signal on without a load
abbrev pub begin_late : Problem → List (Option ℕ) → ℕ
begin_late p cells = p.driver.r * load_of p cells 0

abbrev pub late_of : Problem → List (Option ℕ) → ℕ → ℕ
late_of p cells v = begin_late p cells + delay_between p cells 0 v - behind p.driver.r (cell_in p cells v) * load_of p cells v

-- what stands at w, which is in a stage or ends it
abbrev pub stands_at : Problem → List (Option ℕ) → Pieces → ℕ → Bool → End
stands_at p cells pieces w inside = cond inside (sink_end (sink_of p.sinks w)) (cell_end (cell_in p cells w) (pieces.net_of w))

-- the signal at the driver of v's piece
abbrev pub signal_of : Problem → List (Option ℕ) → Pieces → ℕ → Signal
signal_of p cells pieces v = record {
  net = pieces.net_of v;
  r = behind p.driver.r (cell_in p cells v);
  late = late_of p cells v;
  inverters = inverters_between p cells 0 v;
}

-- the delay of the cell at v, if there is one
abbrev pub own : Problem → List (Option ℕ) → ℕ → ℕ
own p cells v = cell_delay (cell_in p cells v) (load_of p cells v)

-- a cell's own delay is part of the delay to its node
late_enough : (p : Problem) (cells : List (Option ℕ)) → IsPlaced p cells → (v : ℕ) → Begins p cells v
    → behind p.driver.r (cell_in p cells v) * load_of p cells v ≤ begin_late p cells + delay_between p cells 0 v
late_enough p cells is_placed v b =
    elim (cases_eq v 0) [
      | inl z ↦
          subst (λ u. behind p.driver.r (cell_in p cells u) * load_of p cells u ≤ begin_late p cells + delay_between p cells 0 u) (sym z)
          (omega (arith, ap (λ o. behind p.driver.r o * load_of p cells 0) (root_bare p cells is_placed)))
      | inr some ↦
          let above : parent_in p v < v = p.tree.a_tree.smaller v (omega arith) b.node in
          omega (
            arith,
            part (cell_in p cells v) (head_other (cell_in p cells) v b.head some),
            delay_below (parent_in p) (falls_in p) (resistance p.tree.nodes) (capacitance p.tree.nodes) (cell_in p cells) (length p.tree.nodes) 0 v
                (λ e. absurd (omega arith)) some,
          )
    ]
  where
    part : (o : Option Rep) → is_some o ≡ true → behind p.driver.r o * load_of p cells v ≤ cell_delay o (load_of p cells v)
    part None e = absurd (false≢true e)
    part (Some rep) e = omega arith

-- with its load that makes the driver's delay and the delay to v
pub late_sum : (p : Problem) (cells : List (Option ℕ)) → IsPlaced p cells → (v : ℕ) → Begins p cells v
    → late_of p cells v + behind p.driver.r (cell_in p cells v) * load_of p cells v ≡ begin_late p cells + delay_between p cells 0 v
late_sum p cells is_placed v b = omega (arith, late_enough p cells is_placed v b)

-- the delay and the inverters from the root to a node of a piece
pub delay_there : (p : Problem) (cells : List (Option ℕ)) (v : ℕ) (piece : List Node) (at : ℕ → ℕ) → Begins p cells v
    → IsPieceOf (forest_of p cells) v piece at → (i : ℕ) → i < length piece
    → delay_between p cells 0 (at i) ≡ delay_between p cells 0 v + delay_in piece i + below_root i (own p cells (at i))
delay_there p cells v piece at b c i i_m =
    omega (
      arith,
      delay_through (parent_in p) (falls_in p) (resistance p.tree.nodes) (capacitance p.tree.nodes) (cell_in p cells) (length p.tree.nodes) 0 v (at i)
          (root_over (parent_in p) (length p.tree.nodes) (rooted_in p) v b.node)
          (over_piece (forest_of p cells) v (at i) (c.inside i i_m)),
      piece_delay (forest_of p cells) v piece at
          (falls_in p) c i i_m,
    )

pub inverters_there : (p : Problem) (cells : List (Option ℕ)) (v : ℕ) (piece : List Node) (at : ℕ → ℕ) → Begins p cells v
    → IsPieceOf (forest_of p cells) v piece at → (i : ℕ) → i < length piece
    → inverters_between p cells 0 (at i) ≡ inverters_between p cells 0 v + below_root i (step_inverters (cell_in p cells) (at i))
inverters_there p cells v piece at b c i i_m =
    omega (
      arith,
      inverters_through (parent_in p) (falls_in p) (cell_in p cells) 0 v (at i)
          (root_over (parent_in p) (length p.tree.nodes) (rooted_in p) v b.node)
          (over_piece (forest_of p cells) v (at i) (c.inside i i_m)),
      piece_inverters (forest_of p cells) v piece at (falls_in p) c i i_m,
    )

-- the signal comes to a node of the piece when it does in the net
pub late_there : (p : Problem) (cells : List (Option ℕ)) (pieces : Pieces) → IsPlaced p cells
    → (v : ℕ) → Begins p cells v → IsCutAt p cells pieces v → (i : ℕ) → i < length (net_at pieces v).tree
    → late_at (net_at pieces v) (signal_of p cells pieces v) i + below_root i (own p cells (pieces.at v i))
    ≡ begin_late p cells + delay_between p cells 0 (pieces.at v i)
late_there p cells pieces is_placed v b c i i_m =
    omega (
      arith,
      late_sum p cells is_placed v b,
      ap (λ k. behind p.driver.r (cell_in p cells v) * k)
          (piece_root_load (forest_of p cells) v (net_at pieces v).tree (pieces.at v)
          (falls_in p) c.piece),
      delay_there p cells v (net_at pieces v).tree (pieces.at v) b c.piece i i_m,
    )

-- the cells that a piece leads to, in its order
abbrev pub child_at : Problem → List (Option ℕ) → ℕ → ℕ → Option ℕ
child_at p cells v w = cond (is_end p cells v w) (Some w) None

abbrev pub children : Problem → List (Option ℕ) → Pieces → ℕ → List ℕ
children p cells pieces v = filter_map (λ i. child_at p cells v (pieces.at v i)) (node_numbers (length (net_at pieces v).tree))

-- h, at the node i of the piece of v, ends its stage
pub record IsChild (p : Problem) (cells : List (Option ℕ)) (pieces : Pieces) (v h i : ℕ) : Type 0 where
  pub node : i < length (net_at pieces v).tree
  pub here : pieces.at v i ≡ h
  pub ends : is_end p cells v h ≡ true

pub child_from : (p : Problem) (cells : List (Option ℕ)) (pieces : Pieces) (v h : ℕ)
    → Contains (children p cells pieces v) h → (i : ℕ) × IsChild p cells pieces v h i
child_from p cells pieces v h c =
    let (i, f) = filter_from (λ i. child_at p cells v (pieces.at v i)) 0 (length (net_at pieces v).tree) h c in
    let (ends, here) = cond_some (is_end p cells v (pieces.at v i)) (pieces.at v i) h f.gives in (
      i,
      record {
        node = omega (arith, f.high);
        here = here;
        ends = subst (λ w. is_end p cells v w ≡ true) here ends;
      },
    )

pub child_has : (p : Problem) (cells : List (Option ℕ)) (pieces : Pieces) (v h i : ℕ)
    → IsChild p cells pieces v h i → Contains (children p cells pieces v) h
child_has p cells pieces v h i k =
    filter_has (λ i. child_at p cells v (pieces.at v i)) 0 (length (net_at pieces v).tree) i h (omega arith) (omega (arith, k.node))
    (ap (λ w. child_at p cells v w) k.here ∙ ap (λ (b : Bool). cond b (Some h) None) k.ends)

-- each cell that ends the stage of v is one of them
pub child_of_end : (p : Problem) (cells : List (Option ℕ)) (pieces : Pieces) (v h : ℕ)
    → IsCutAt p cells pieces v → h < length p.tree.nodes → is_end p cells v h ≡ true
    → Contains (children p cells pieces v) h
child_of_end p cells pieces v h c h_n ends =
    let (i, i_m, here) = c.piece.each h h_n (end_in_piece (forest_of p cells) v h ends) in
    child_has p cells pieces v h i (record { node = i_m; here = here; ends = ends })

pub child_begins : (p : Problem) (cells : List (Option ℕ)) (v h : ℕ) → h < length p.tree.nodes
    → is_end p cells v h ≡ true → Begins p cells h
child_begins p cells v h h_n ends = record {
  node = h_n;
  head = head_cell (cell_in p cells) h (end_inner (parent_in p) (cell_in p cells) (falls_in p) v h ends).here;
}

pub are_children : (p : Problem) (cells : List (Option ℕ)) (pieces : Pieces) → AreCut p cells pieces
    → AreChildren (children p cells pieces) (Begins p cells) (length p.tree.nodes)
are_children p cells pieces cut = record {
  start = begins_root p cells;
  within = λ v b. b.node;
  goes = λ v h b c.
      let (i, k) = child_from p cells pieces v h c in
      child_begins p cells v h (subst (λ w. w < length p.tree.nodes) k.here ((cut.each v b).piece.within i k.node)) k.ends;
  later = λ v h b c.
      let (i, k) = child_from p cells pieces v h c in
      let over : is_over (parent_in p) v h ≡ true = end_over (parent_in p) (cell_in p cells) v h k.ends in
      let other : h ≢ v = end_other (parent_in p) (cell_in p cells) (falls_in p) v h k.ends in
      omega (arith, over_le (parent_in p) (falls_in p) v h over, other);
  one = λ v u h b d c e.
      let (i, k) = child_from p cells pieces v h c in
      let (j, l) = child_from p cells pieces u h e in
      one_end (parent_in p) (cell_in p cells) (falls_in p) v u b.head d.head h k.ends l.ends;
  once = λ v b.
      filter_once (λ i. child_at p cells v (pieces.at v i)) 0 (length (net_at pieces v).tree)
      (λ i k y i_0 k_0 i_m k_m e f.
      let (_, y_i) = cond_some (is_end p cells v (pieces.at v i)) (pieces.at v i) y e in
      let (_, y_k) = cond_some (is_end p cells v (pieces.at v k)) (pieces.at v k) y f in
      (cut.each v b).piece.once i k (omega arith) (omega arith) (y_i ∙ sym y_k));
}

same_signal : (n r l t n2 r2 l2 t2 : ℕ) → n ≡ n2 → r ≡ r2 → l ≡ l2 → t ≡ t2
    → ◌≡◌ {A = Signal} (record { net = n; r = r; late = l; inverters = t }) (record { net = n2; r = r2; late = l2; inverters = t2 })
same_signal n r l t n2 r2 l2 t2 en er el et = λ j. record { net = en j; r = er j; late = el j; inverters = et j }

-- a node below the root of its piece
pub below_begin : (p : Problem) (cells : List (Option ℕ)) (pieces : Pieces) (v : ℕ) → IsCutAt p cells pieces v
    → (i : ℕ) → pieces.at v i ≢ v → 0 < i
below_begin p cells pieces v c i other =
    elim (cases_eq i 0) [
      | inl z ↦ absurd (other (ap (pieces.at v) z ∙ c.piece.root))
      | inr some ↦ omega arith
    ]

-- the signal behind a cell is that of the cell's piece
goes_on_cell : (p : Problem) (cells : List (Option ℕ)) (pieces : Pieces) → IsPlaced p cells
    → (v : ℕ) → Begins p cells v → IsCutAt p cells pieces v → (i : ℕ) → 0 < i → i < length (net_at pieces v).tree
    → (o : Option Rep) → cell_in p cells (pieces.at v i) ≡ o → is_some o ≡ true
    → passed (net_at pieces v) (signal_of p cells pieces v) i (cell_end o (pieces.net_of (pieces.at v i))) ≡ Some (signal_of p cells pieces (pieces.at v i))
goes_on_cell p cells pieces is_placed v b c i i_0 i_m None is e = absurd (false≢true e)
goes_on_cell p cells pieces is_placed v b c i i_0 i_m (Some rep) is e =
    ap (λ (s : Signal). Some s)
    (same_signal
    (pieces.net_of (pieces.at v i))
    rep.r
    (late_at (net_at pieces v) (signal_of p cells pieces v) i + rep.k)
    (inverters_between p cells 0 v + cond rep.inverts 1 0)
    (pieces.net_of (pieces.at v i))
    (behind p.driver.r (cell_in p cells (pieces.at v i)))
    (late_of p cells (pieces.at v i))
    (inverters_between p cells 0 (pieces.at v i))
    refl
    (sym (ap (behind p.driver.r) is))
    (omega (
      arith,
      late_there p cells pieces is_placed v b c i i_m,
      at_node i (own p cells (pieces.at v i)) i_0,
      ap (λ (o : Option Rep). cell_delay o (load_of p cells (pieces.at v i))) is,
      ap (λ (o : Option Rep). behind p.driver.r o * load_of p cells (pieces.at v i)) is,
    ))
    (omega (
      arith,
      inverters_there p cells v (net_at pieces v).tree (pieces.at v) b c.piece i i_m,
      at_node i (step_inverters (cell_in p cells) (pieces.at v i)) i_0,
      ap {B = ℕ} (λ (o : Option Rep). cond (is_inverter o) 1 0) is,
    )))

goes_on_sink : (net : TimedNet) (s : Signal) (i : ℕ) (o : Option Sink) → passed net s i (sink_end o) ≡ None
goes_on_sink net s i None = refl
goes_on_sink net s i (Some goal) = refl

-- what is passed on at a node of a piece is the signal of the cell there, if it has one
goes_on : (p : Problem) (cells : List (Option ℕ)) (pieces : Pieces) → IsPlaced p cells
    → (v : ℕ) → Begins p cells v → IsCutAt p cells pieces v → (i : ℕ) → i < length (net_at pieces v).tree
    → passed (net_at pieces v) (signal_of p cells pieces v) i (end_at (net_at pieces v) i)
    ≡ option_map (signal_of p cells pieces) (child_at p cells v (pieces.at v i))
goes_on p cells pieces is_placed v b c i i_m =
    ap (passed (net_at pieces v) (signal_of p cells pieces v) i) (c.ends i i_m)
    ∙ elim (piece_cases (forest_of p cells) v (pieces.at v i) (c.piece.inside i i_m)) as
    (λ _. passed (net_at pieces v) (signal_of p cells pieces v) i (end_of p cells pieces v (pieces.at v i))
    ≡ option_map (signal_of p cells pieces) (child_at p cells v (pieces.at v i))) [
      | inl inside ↦
          ap (λ (t : Bool). passed (net_at pieces v) (signal_of p cells pieces v) i (stands_at p cells pieces (pieces.at v i) t)) inside
          ∙ goes_on_sink (net_at pieces v) (signal_of p cells pieces v) i (sink_of p.sinks (pieces.at v i))
          ∙ ap (λ (t : Bool). option_map (signal_of p cells pieces) (cond t (Some (pieces.at v i)) None))
          (sym (stage_no_end (parent_in p) (cell_in p cells) (falls_in p) v (pieces.at v i) inside))
      | inr ends ↦
          ap (λ (t : Bool). passed (net_at pieces v) (signal_of p cells pieces v) i (stands_at p cells pieces (pieces.at v i) t))
          (stage_ended (parent_in p) (cell_in p cells) (falls_in p) v (pieces.at v i) ends (pieces.at v i)
          (over_self (parent_in p) (falls_in p) (pieces.at v i)))
          ∙ goes_on_cell p cells pieces is_placed v b c i
          (below_begin p cells pieces v c i (end_other (parent_in p) (cell_in p cells) (falls_in p) v (pieces.at v i) ends))
          i_m (cell_in p cells (pieces.at v i)) refl
          (end_inner (parent_in p) (cell_in p cells) (falls_in p) v (pieces.at v i) ends).here
          ∙ ap (λ (t : Bool). option_map (signal_of p cells pieces) (cond t (Some (pieces.at v i)) None)) (sym ends)
    ]

-- so a net passes on the signals of the pieces that it drives
passed_on_children : (p : Problem) (cells : List (Option ℕ)) (pieces : Pieces) → IsPlaced p cells
    → (v : ℕ) → Begins p cells v → IsCutAt p cells pieces v
    → passed_on (net_at pieces v) (signal_of p cells pieces v) ≡ map (signal_of p cells pieces) (children p cells pieces v)
passed_on_children p cells pieces is_placed v b c =
    filter_mapped (λ i. passed (net_at pieces v) (signal_of p cells pieces v) i (end_at (net_at pieces v) i))
    (λ i. child_at p cells v (pieces.at v i)) (signal_of p cells pieces) 0 (length (net_at pieces v).tree)
    (λ i low high. goes_on p cells pieces is_placed v b c i (omega arith))

-- the walk over the nets is the search over the cells
pub reached_are : (p : Problem) (cells : List (Option ℕ)) (pieces : Pieces) → IsPlaced p cells → AreCut p cells pieces
    → (k : ℕ) → reached pieces.nets (start_of (pieces.net_of 0) p.driver) k ≡ map (signal_of p cells pieces) (found (children p cells pieces) k)
unfolding reached found children_of
reached_are p cells pieces is_placed cut zero =
    ap (λ (s : Signal). s ∷ [])
    (same_signal (pieces.net_of 0) p.driver.r 0 0 (pieces.net_of 0) (behind p.driver.r (cell_in p cells 0)) (late_of p cells 0) (inverters_between p cells 0 0)
    refl
    (sym (ap (behind p.driver.r) (root_bare p cells is_placed)))
    (omega (
      arith,
      ap (λ (o : Option Rep). behind p.driver.r o * load_of p cells 0) (root_bare p cells is_placed),
      delay_self (parent_in p) (falls_in p) (resistance p.tree.nodes) (capacitance p.tree.nodes) (cell_in p cells) (length p.tree.nodes) 0,
      ap (λ (o : Option Rep). cell_delay o (load_of p cells 0)) (root_bare p cells is_placed),
    ))
    (omega (
      arith,
      inverters_self (parent_in p) (falls_in p) (cell_in p cells) 0,
      ap {B = ℕ} (λ (o : Option Rep). cond (is_inverter o) 1 0) (root_bare p cells is_placed),
    )))
reached_are p cells pieces is_placed cut (suc k) =
    ap (λ (xs : List Signal). xs ++ passed_on_by pieces.nets (slice_get xs k)) (reached_are p cells pieces is_placed cut k)
    ∙ ap (λ (o : Option Signal). map (signal_of p cells pieces) heads ++ passed_on_by pieces.nets o) (slice_get-map (signal_of p cells pieces) heads k)
    ∙ ap (λ (ys : List Signal). map (signal_of p cells pieces) heads ++ ys) (turn (slice_get heads k) refl)
    ∙ sym (map-append (signal_of p cells pieces) heads (children_of (children p cells pieces) (slice_get heads k)))
  where
    heads : List ℕ
    heads = found (children p cells pieces) k

    turn : (o : Option ℕ) → slice_get heads k ≡ o
        → passed_on_by pieces.nets (option_map (signal_of p cells pieces) o) ≡ map (signal_of p cells pieces) (children_of (children p cells pieces) o)
    turn None e = refl
    turn (Some v) e =
        let b : Begins p cells v =
        at_some (Begins p cells) heads k v
        (found_all (children p cells pieces) (Begins p cells) (length p.tree.nodes) (are_children p cells pieces cut) k) e in
        passed_on_children p cells pieces is_placed v b (cut.each v b)
