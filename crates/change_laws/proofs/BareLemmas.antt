-- A net without cells that were put in re-times to its own slack.
use Rattle.std.proofs.Common.{◌≡◌, ℕ, zero, suc, ◌+◌, ◌<◌, ◌≤◌, ◌&&◌, ◌||◌, Bool, true, false, cond, List, [], ◌∷◌, length, map, get_or, refl, sym, ap, ◌∙◌, subst, arith, inl, inr, Option, None, Some, is_some, option_map}
use Rattle.std.specs.Prelude.{MatchOption, find, slice_index}
use Rattle.std.specs.List.{cons_option, count_by, filter_map, range_with_len, sum_by}
use Rattle.std.proofs.lemmas.Bool.{and_parts, cases_Bool, cases_eq, cases_lt, false≢true, ne_eqb}
use Rattle.std.proofs.lemmas.List.{get_or-map, get_or_past, length-map}
use Rattle.std.proofs.lemmas.List.Elements.{All-cons, All-nil}
use Rattle.std.proofs.lemmas.List.FromFn.{length-map-range_with_len}
use Rattle.elmore.proofs.PlacedInverterLemmas.{inverters_parts, step_inverters}
use Rattle.elmore.proofs.RootLemmas.{from_root}
use Rattle.elmore.proofs.StageLemmas.{stage_below, stage_self}
use Rattle.elmore.proofs.StageThroughLemmas.{end_inner}
use Rattle.elmore.proofs.SumLemmas.{sum_of_none, sum_of_same}
use Rattle.elmore.proofs.TreeLemmas.{tree_falls, tree_of}
use Rattle.elmore.specs.Cells.{cell_at, is_inverter, rep_of}
use Rattle.elmore.specs.Delay.{is_odd}
use Rattle.elmore.specs.Path.{nodes, way}
use Rattle.elmore.specs.Placements.{HasPolarity, IsFirstWrong, is_inverted}
use Rattle.elmore.specs.Problems.{sink_of}
use Rattle.elmore.specs.Stage.{in_stage}
use Rattle.elmore.specs.Trees.{parent_of}
use Rattle.elmore.specs.declared.parts.Sink.{Sink}
use Rattle.elmore.specs.declared.problem.Problem.{Problem}
use Rattle.elmore.specs.declared.rep.Rep.{Rep}
use Rattle.elmore.specs.declared.tree.Node.{Node}
use Rattle.spef_net.specs.declared.net.ParConn.{ParConn}
use Rattle.retime_laws.proofs.NameLemmas.{numbered_name}
use Rattle.retime_laws.proofs.PassageLemmas.{from_old, into_old}
use Rattle.cut_laws.proofs.BarePieceLemmas.{bare_piece}
use Rattle.cut_laws.proofs.CutTimeLemmas.{cut_retimes}
use Rattle.cut_laws.specs.CutNets.{AreCut, Begins, IsCutAt, Pieces, cell_end, sink_end}
use Rattle.cut_laws.specs.Walks.{IsWalk, Signal, TimedNet, end_at, nothing, passed, passed_on, reached, start_of}
use Rattle.vg_design.proofs.ConnectedLemmas.{found_is}
use Rattle.vg_design.specs.Designs.{Design, Joined, name_of}
use Rattle.vg_design.specs.Nets.{IsTimedOf, name_at}
use Rattle.vg_design.specs.Parts.{sink_at}
use Rattle.vg_design.specs.Refusals.{is_unconstrained}
use Rattle.vg_design.specs.declared.time.Timed.{Timed}
use Rattle.vg_retime.specs.Passages.{above_from, end_by, end_in}
use Rattle.vg_retime.specs.Refusals.{PassesHere, is_unconstrained_here}
use Rattle.vg_retime.specs.Retimings.{Retimes}
use Rattle.vg_retime.specs.WalkNets.{IsNetIn, IsNetOf, WalkNet, timed as timed_net}
use Rattle.vg_retime.specs.Ways.{Nets, first_wrong, is_wrong, timed_nets, wrong_in, wrong_node}
use Rattle.vg_split.specs.Conditions.{IsOld}
use Rattle.spef_wire.specs.declared.refusal.Refusal.TheVariants.{Unconstrained}

-- ---- lists

filter_none : {X Y : Type 0} (f : X → Option Y) (xs : List X) → ((x : X) → f x ≡ None) → filter_map f xs ≡ []
filter_none f [] none = refl
filter_none f (x ∷ xs) none = ap (λ o. cons_option o (filter_map f xs)) (none x) ∙ filter_none f xs none

find_none : {X : Type 0} (q : X → Bool) (xs : List X) → ((x : X) → q x ≡ false) → find q xs ≡ None
find_none q [] none = refl
find_none q (x ∷ xs) none = ap (λ b. cond b (Some x) (find q xs)) (none x) ∙ find_none q xs none

-- the first number of a range that passes is found
find_at : (q : ℕ → Bool) (a n w : ℕ) → a ≤ w → w < a + n → q w ≡ true → ((v : ℕ) → v < w → q v ≡ false) → find q (range_with_len a n) ≡ Some w
find_at q a zero w low high here before = absurd (omega (arith, low, high))
find_at q a (suc n) w low high here before = elim (cases_eq a w) [
  | inl same ↦ ap (λ b. cond b (Some a) (find q (range_with_len (a + 1) n))) (ap q same ∙ here) ∙ ap Some same
  | inr other ↦
      ap (λ b. cond b (Some a) (find q (range_with_len (a + 1) n))) (before a (omega (arith, low, other)))
      ∙ find_at q (a + 1) n w (omega (arith, low, other)) (omega (arith, high)) here before
]

sum_none : (f : ℕ → ℕ) (xs : List ℕ) → ((x : ℕ) → f x ≡ 0) → sum_by f xs ≡ 0
sum_none f xs none = sum_of_same f (λ x. 0) xs none ∙ sum_of_none xs

-- where one passes, one is found
none_found : {X : Type 0} (q : X → Bool) (xs : List X) (i : ℕ) (x : X) → find q xs ≡ None → i < length xs → get_or xs i x ≡ x → q x ≡ true → ⊥
none_found q [] i x none low at pass = absurd (omega (arith, low))
none_found q (y ∷ ys) zero x none low at pass =
    absurd (let clash : Some y ≡ None = sym (ap (λ b. cond b (Some y) (find q ys)) (ap q at ∙ pass)) ∙ none in cc)
none_found q (y ∷ ys) (suc i) x none low at pass = elim (cases_Bool (q y)) [
  | inl passed_it ↦ absurd (let clash : Some y ≡ None = sym (ap (λ b. cond b (Some y) (find q ys)) passed_it) ∙ none in cc)
  | inr failed ↦ none_found q ys i x (sym (ap (λ b. cond b (Some y) (find q ys)) failed) ∙ none) (omega (arith, low)) at pass
]

-- ---- ends

bare_end : (o : Option Sink) → end_by None o ≡ sink_end o
bare_end None = refl
bare_end (Some goal) = refl

passes_none : (net : TimedNet) (s : Signal) (w : ℕ) (o : Option Sink) → passed net s w (sink_end o) ≡ None
passes_none net s w None = refl
passes_none net s w (Some goal) = refl

-- what is not as it is wanted, but not inverted, is to be inverted
wants_other : (wanted inverted : Bool) → inverted ≡ false → (inverted ≡ wanted → ⊥) → wanted ≡ true
wants_other true inverted none other = refl
wants_other false inverted none other = absurd (other none)

-- a sink wants the inverted signal
abbrev wants : Option Sink → Bool
wants None = false
wants (Some goal) = goal.inverted

wrong_end : (o : Option Sink) → is_wrong false (sink_end o) ≡ wants o
wrong_end None = refl
wrong_end (Some goal) = by goal.inverted
  where
    by : (b : Bool) → cond b true false ≡ b
    by true = refl
    by false = refl

module _ (e : Design) (prefix name : List ℕ) (timed : Timed) (is : IsTimedOf e name timed)
    (old : (v : ℕ) → v < length is.problem.net.par.nodes → IsOld prefix (name_of is.problem.net.par v).owner) where
  abbrev n : Joined
  n = is.problem.net

  abbrev order : List ℕ
  order = is.problem.order

  abbrev p : Problem
  p = is.found.problem

  abbrev cells : List (Option ℕ)
  cells = is.timing.cells

  -- the net, as a walk comes to it
  abbrev net : WalkNet
  net = record { tree = p.tree.nodes; ends = map (end_in e prefix n) order; names = is.found.names; driver = p.driver; above = above_from None }

  order_size : length order ≡ length n.par.nodes
  order_size = is.problem.a_tree.a_tree.lists.count

  tree_size : length p.tree.nodes ≡ length n.par.nodes
  tree_size =
      ap (λ (ns : List Node). length ns) is.problem.problem.tree_is ∙ length-map-range_with_len _ 0 (length is.problem.tree) ∙ is.problem.a_tree.a_tree.count

  old_at : (i : ℕ) → i < length order → IsOld prefix (name_of n.par (slice_index order i)).owner
  old_at i low = old (slice_index order i) (is.problem.a_tree.a_tree.lists.within i (omega (arith, low, order_size)))

  ends_at : (i : ℕ) → end_at (timed_net net) i ≡ sink_end (sink_of p.sinks i)
  ends_at i =
      let sinks = ap (λ (s : List (Option Sink)). sink_of s i) is.problem.problem.sinks in
      elim (cases_lt i (length order)) as (λ _. end_at (timed_net net) i ≡ sink_end (sink_of p.sinks i)) [
        | inl low ↦
            get_or-map (end_in e prefix n) order i 0 nothing low
            ∙ (λ j. end_by (into_old e prefix n (name_of n.par (slice_index order i)) (old_at i low) j) (sink_at e.rows n.par (slice_index order i)))
            ∙ bare_end (sink_at e.rows n.par (slice_index order i))
            ∙ ap sink_end (sym (get_or-map (sink_at e.rows n.par) order i 0 None low) ∙ sym sinks)
        | inr high ↦
            get_or_past (map (end_in e prefix n) order) i nothing (omega (arith, high, length-map order (end_in e prefix n)))
            ∙ ap sink_end (sym (sinks ∙ get_or_past (map (sink_at e.rows n.par) order) i None (omega (arith, high, length-map order (sink_at e.rows n.par)))))
      ]

  -- ---- as it is timed

  no_cell : (u : ℕ) → cell_at p.reps cells u ≡ None
  no_cell u = ap (rep_of p.reps) (is.timing.bare.none u)

  all_inside : (i : ℕ) → i < length p.tree.nodes → in_stage (parent_of p.tree.nodes) (cell_at p.reps cells) 0 i ≡ true
  all_inside =
      let t = p.tree.a_tree in
      let parent = parent_of p.tree.nodes in
      let cell = cell_at p.reps cells in
      from_root parent (length p.tree.nodes) (tree_of p.tree.nodes t) (λ i. in_stage parent cell 0 i ≡ true) (stage_self parent cell (tree_falls p.tree.nodes t) 0)
      (λ i i_0 i_n more.
      stage_below parent cell (tree_falls p.tree.nodes t) 0 i (λ same. absurd (omega (arith, t.smaller i i_0 i_n, same))) (λ same. absurd (omega (arith, same, i_0)))
      ∙ ap (λ (o : Option Rep). cond (is_some o) false (in_stage parent cell 0 (parent i))) (no_cell i) ∙ more)

  abbrev pieces : Pieces
  pieces = record { nets = λ _. timed_net net; net_of = λ _. n.id; at = λ _ i. i }

  begins_first : (v : ℕ) → Begins p cells v → v ≡ 0
  begins_first v b = elim (cases_eq v 0) [
    | inl first ↦ first
    | inr later ↦ absurd (
        false≢true (sym ((λ i. ne_eqb v 0 later i || is_some (no_cell v i))) ∙ b.head))
  ]

  cut_first : IsCutAt p cells pieces 0
  cut_first = record {
    piece = bare_piece p.tree.nodes p.reps cells p.tree.a_tree is.timing.bare.none;
    one_each = length-map order (end_in e prefix n) ∙ order_size ∙ sym tree_size;
    ends = λ i low.
        ends_at i ∙ sym (ap (λ b. cond b (sink_end (sink_of p.sinks i)) (cell_end (cell_at p.reps cells i) n.id)) (all_inside i low));
    above = λ u begins ends.
        absurd
        (false≢true
        (sym (ap (λ (o : Option Rep). is_some o) (no_cell 0))
        ∙ (end_inner (parent_of p.tree.nodes) (cell_at p.reps cells) (tree_falls p.tree.nodes p.tree.a_tree) u 0 ends).here));
  }

  cut : AreCut p cells pieces
  cut = record {
    once = λ v u v_begins u_begins same. begins_first v v_begins ∙ sym (begins_first u u_begins);
    each = λ v begins. subst (IsCutAt p cells pieces) (sym (begins_first v begins)) cut_first;
    first = refl;
  }

  -- ---- the way

  abbrev nets : Nets
  nets = λ _. net

  abbrev start : Signal
  start = start_of n.id p.driver

  passes_on : passed_on (timed_net net) start ≡ []
  passes_on =
      filter_none (λ w. passed (timed_net net) start w (end_at (timed_net net) w)) (nodes (length p.tree.nodes))
      (λ w. ap (passed (timed_net net) start w) (ends_at w) ∙ passes_none (timed_net net) start w (sink_of p.sinks w))

  walk : IsWalk (timed_nets nets) start (start ∷ [])
  unfolding reached
  walk = record {
    k = 1;
    come = ap (λ (later : List Signal). start ∷ later) (sym passes_on);
    ended = omega arith;
    once = λ i j d less low. absurd (omega (arith, less, low));
  }

  -- ---- nothing refuses it

  unconstrained : (conn : ParConn) (here : Bool) → (is_unconstrained e.rows n.par conn && here) ≡ true → is_unconstrained e.rows n.par conn ≡ true
  unconstrained conn here both = (and_parts (is_unconstrained e.rows n.par conn) here both).0

  passes_here : PassesHere 17 e prefix name
  passes_here (Unconstrained at) low h = constrained (find (is_unconstrained e.rows h.net.par) h.net.par.conns) refl
    where
      constrained : (o : Option ParConn) → find (is_unconstrained e.rows h.net.par) h.net.par.conns ≡ o → ⊥
      constrained (Some conn) first =
          is.problem.accepted (Unconstrained (name_of h.net.par conn.node)) (omega arith)
          (record { net = h.net; joined = h.joined; holds = record { conn = conn; first = first; name_is = refl } })
      constrained None first =
          let found = found_is (is_unconstrained_here e prefix h.net) h.net.par.conns h.first.conn h.first.first in
          none_found (is_unconstrained e.rows h.net.par) h.net.par.conns found.place h.first.conn first found.low found.is
          (and_parts (is_unconstrained e.rows h.net.par h.first.conn) _ found.passes).0
  passes_here r low h = is.problem.accepted r low h

  net_in : IsNetIn 17 e prefix n.id net
  net_in = subst (λ (m : List ℕ). IsNetOf 17 e prefix m net) (sym (numbered_name e name n.id is.problem.joined.number)) (record {
    accepted = passes_here;
    joined = n;
    is_joined = is.problem.joined;
    net_is = record {
      tree = is.problem.tree;
      order = order;
      a_tree = is.problem.a_tree;
      tree_is = is.problem.problem.tree_is;
      ends_are = refl;
      names_are = is.problem.names;
      driver_is = is.problem.problem.driver;
      above_is = sym (ap above_from (from_old e prefix n (name_of n.par (slice_index order 0)) (old_at 0 (omega (arith, p.tree.a_tree.some_node, tree_size, order_size)))));
    };
  })

  -- ---- polarity

  not_inverted : (w : ℕ) → is_inverted p cells w ≡ false
  not_inverted w =
      let cell = cell_at p.reps cells in
      let step : (u : ℕ) → step_inverters cell u ≡ 0 = (λ u. ap (λ (o : Option Rep). cond (is_inverter o) 1 0) (no_cell u)) in
      ap is_odd (inverters_parts (parent_of p.tree.nodes) cell 0 w ∙ (λ i. sum_none (step_inverters cell) (way (parent_of p.tree.nodes) 0 w) step i + step 0 i))

  wrong_is : (w : ℕ) → is_wrong (is_odd 0) (end_at (timed_net net) w) ≡ wants (sink_of p.sinks w)
  wrong_is w = ap (is_wrong false) (ends_at w) ∙ wrong_end (sink_of p.sinks w)

  right : (w : ℕ) → HasPolarity p cells w → wants (sink_of p.sinks w) ≡ false
  right w has = by (sink_of p.sinks w) refl
    where
      by : (o : Option Sink) → sink_of p.sinks w ≡ o → wants o ≡ false
      by None at = refl
      by (Some goal) at = sym (has goal at) ∙ not_inverted w

  first_node : (wrong : Option ℕ) → MatchOption wrong ((w : ℕ) → HasPolarity p cells w) (IsFirstWrong p cells) → wrong_node net start ≡ wrong
  first_node None all = find_none (λ w. is_wrong (is_odd 0) (end_at (timed_net net) w)) (nodes (length net.ends)) (λ w. wrong_is w ∙ right w (all w))
  first_node (Some w) first =
      find_at (λ v. is_wrong (is_odd 0) (end_at (timed_net net) v)) 0 (length net.ends) w (omega arith) within (wrong_is w ∙ wrong) (λ v less. wrong_is v ∙ right v (first.before v less))
    where
      wrong : wants (sink_of p.sinks w) ≡ true
      wrong = let (goal, at, other) = first.wrong in ap wants at ∙ wants_other goal.inverted (is_inverted p cells w) (not_inverted w) other

      within : w < 0 + length net.ends
      within = elim (cases_lt w (length net.ends)) [
        | inl low ↦ omega (arith, low)
        | inr high ↦ absurd (
            false≢true (sym (ap (is_wrong (is_odd 0)) (get_or_past net.ends w nothing high)) ∙ (wrong_is w ∙ wrong)))
      ]

  wrong_name : first_wrong nets (start ∷ []) ≡ timed.wrong
  wrong_name = only (wrong_in net start) ∙ ap (option_map (name_at net.names)) (first_node is.wrong is.timing.polarity) ∙ sym is.named
    where
      only : {X : Type 0} (o : Option X) → Rattle.std.specs.List.slice_get (cons_option o []) 0 ≡ o
      only None = refl
      only (Some x) = refl

  -- ---- the whole

  pub bare_retimes : Retimes 17 e prefix name timed
  bare_retimes = record {
    way = record { nets = nets; first = record { net = n.id; driver = p.driver }; signals = start ∷ [] };
    is_way = record {
      id = n.id;
      named = is.problem.joined.number;
      climb = record {
        nets = nets;
        path = [];
        climb = (refl, refl);
        once = λ i j d less low. absurd (omega (arith, less, low));
        accepted = All-cons (λ i. IsNetIn 17 e prefix i net) n.id [] net_in (All-nil (λ i. IsNetIn 17 e prefix i net));
        top = refl;
        driver = refl;
      };
      walk = walk;
      met = All-cons (λ (s : Signal). IsNetIn 17 e prefix s.net net) start [] net_in (All-nil (λ (s : Signal). IsNetIn 17 e prefix s.net net));
    };
    slack = cut_retimes p cells pieces (λ v b here. absurd (let clash : None ≡ Some b = sym (is.timing.bare.none v) ∙ here in cc)) cut timed.slack is.timing.slack;
    wrong = sym wrong_name;
  }
