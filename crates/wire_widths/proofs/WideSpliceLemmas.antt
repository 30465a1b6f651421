-- Placements and widths of the live children of a node, a row for each child's wire and a cell at the node, put together.
use Rattle.std.proofs.Common.{◌≡◌, ◌≢◌, ℕ, ◌+◌, ◌≤ℤ◌, ◌<◌, ◌≤◌, Bool, true, false, List, [], ◌∷◌, map, length, slice_index_or, refl, sym, ap, ◌∙◌, subst, eqb, cond, arith, inl, inr, Option, None}
use Rattle.std.proofs.lemmas.Bool.{cases_eq, cases_lt, eq-eqb, ne_eqb, false≢true}
use Rattle.std.proofs.lemmas.List.{get_or_past}
use Rattle.std.proofs.lemmas.List.FromFn.{length-map-range_with_len, get_or-map-range_with_len}
use Rattle.std.specs.List.{Contains, filter}
use Rattle.elmore.specs.Path.{Falls, is_over, nodes as node_numbers}
use Rattle.elmore.specs.Cells.{cell_at, rep_of}
use Rattle.elmore.specs.Problems.{is_live}
use Rattle.elmore.specs.Legal.{IsPlaced, MayHave}
use Rattle.elmore.specs.Placements.{IsPlacement}
use Rattle.elmore.specs.PlacedLaws.{AreAlikeFrom}
use Rattle.elmore.specs.Trees.{parent_of, capacitance}
use Rattle.elmore.specs.declared.pair.Pair.{Pair}
use Rattle.elmore.specs.declared.problem.Problem.{Problem}
use Rattle.elmore.proofs.PathLemmas.{over_le, over_self}
use Rattle.elmore.proofs.TreeLemmas.{tree_falls}
use Rattle.elmore.proofs.LocalLemmas.{Same, same_inverters}
use Rattle.elmore.proofs.LeastLemmas.{within_sinks}
use Rattle.cand_pairs.specs.Candidates.{live_children, own_capacitance, with_cell, past_cell, whole_fork, fork_of}
use Rattle.cand_pairs.proofs.ChildLemmas.{child_above, one_child, in_filter, filter_parts}
use Rattle.cand_pairs.proofs.ChoiceLemmas.{choose, sum_alike_in}
use Rattle.cand_pairs.proofs.PairPartLemmas.{IsLiveChild, live_child_parts}
use Rattle.cand_pairs.proofs.SpliceLemmas.{spliced, spliced_here, spliced_below, IsSound, spliced_sound}
use Rattle.wire_widths.specs.Widths.{AreWidths, IsLawful, chosen_at, wire_r, wire_a, r_of, a_of, wide_delay, wide_load_of}
use Rattle.wire_widths.specs.declared.width.Width.{Width}
use Rattle.wire_widths.specs.WidePairs.{IsWidePairOf, IsWidePairAt, IsWideJoinOf, IsWideOpenBy, IsWideStep, carried_by}
use Rattle.wire_widths.proofs.WideLoadLemmas.{AgreeWide, agree_under, wide_near, wide_input_load_near, wide_delay_near}
use Rattle.wire_widths.proofs.WidePartLemmas.{wide_pairs_of, IsMadeOf, wide_pair_parts, wide_pair_whole}

-- the cells at and below a node, and the widths strictly below it, alone decide its pairs
pub wide_alike : (p : Problem) (widths : List Width) (v : ℕ) (odd : Bool) (a b : List (Option ℕ)) (rows others : List ℕ) (x : Pair)
    → AreAlikeFrom p.tree.nodes v a b
    → ((u : ℕ) → is_over (parent_of p.tree.nodes) v u ≡ true → u ≢ v → chosen_at rows u ≡ chosen_at others u)
    → IsPlacement p b → IsPlaced p b → IsLawful p widths others → IsWidePairOf p widths v odd a rows x → IsWidePairOf p widths v odd b others x
wide_alike p widths v odd a b rows others x alike same_rows placement placed lawful is = record {
  placement = placement;
  placed = placed;
  lawful = lawful;
  wanted = λ w sink under.
      rw (← same_inverters (parent_of p.tree.nodes) falls v (cell_at p.reps a) (cell_at p.reps b) same w under.under) (is.wanted w sink under);
  least = λ w sink under. rw (← delays w under.under) (is.least w sink under);
  met =
      let (w, sink, under, e) = is.met in
      (w, sink, under, rw (← delays w under.under) e);
  load =
      is.load
      ∙ wide_input_load_near (parent_of p.tree.nodes) (r_of p widths rows) (r_of p widths others) (a_of p widths rows) (a_of p widths others)
      (capacitance p.tree.nodes) (cell_at p.reps a) (cell_at p.reps b) falls (length p.tree.nodes) v agree;
  fits = λ u over.
      subst (MayHave p u (slice_index_or b u None))
      (wide_near (parent_of p.tree.nodes) (r_of p widths rows) (r_of p widths others) (a_of p widths rows) (a_of p widths others) (capacitance p.tree.nodes)
      (cell_at p.reps a) (cell_at p.reps b) falls (length p.tree.nodes) u
      (agree_under (parent_of p.tree.nodes) falls v u (r_of p widths rows) (r_of p widths others) (a_of p widths rows) (a_of p widths others) (cell_at p.reps a) (cell_at p.reps b) over agree))
      (subst (λ (o : Option ℕ). MayHave p u o (wide_load_of p widths a rows u)) (alike u over) (is.fits u over));
}
  where
    falls : Falls (parent_of p.tree.nodes)
    falls = tree_falls p.tree.nodes p.tree.a_tree

    same : Same (parent_of p.tree.nodes) v (cell_at p.reps a) (cell_at p.reps b)
    same = record { at = λ u over. ap (rep_of p.reps) (alike u over) }

    agree : AgreeWide (parent_of p.tree.nodes) v (r_of p widths rows) (r_of p widths others) (a_of p widths rows) (a_of p widths others) (cell_at p.reps a) (cell_at p.reps b)
    agree = record {
      cells = λ u over. ap (rep_of p.reps) (alike u over);
      wires = λ u over u_v. ap (λ i. wire_r p widths i u) (same_rows u over u_v);
      added = λ u over u_v. ap (λ i. wire_a p widths i u) (same_rows u over u_v);
    }

    delays : (w : ℕ) → is_over (parent_of p.tree.nodes) v w ≡ true
        → wide_delay (parent_of p.tree.nodes) (r_of p widths rows) (a_of p widths rows) (capacitance p.tree.nodes) (cell_at p.reps a) (length p.tree.nodes) v w
        ≡ wide_delay (parent_of p.tree.nodes) (r_of p widths others) (a_of p widths others) (capacitance p.tree.nodes) (cell_at p.reps b) (length p.tree.nodes) v w
    delays w over =
        wide_delay_near (parent_of p.tree.nodes) (r_of p widths rows) (r_of p widths others) (a_of p widths rows) (a_of p widths others)
        (capacitance p.tree.nodes) (cell_at p.reps a) (cell_at p.reps b) falls (length p.tree.nodes) v w agree over

-- the row of w: at a live child its own, below one that of the child's choice, and elsewhere the first
row_by : (ℕ → ℕ) → (ℕ → List ℕ) → ℕ → ℕ → ℕ
row_by row rows_of w u = cond (eqb w u) (row u) (chosen_at (rows_of u) w)

first_row : (ℕ → ℕ) → (ℕ → List ℕ) → ℕ → List ℕ → ℕ
first_row row rows_of w [] = 0
first_row row rows_of w (u ∷ us) = row_by row rows_of w u

above_of : (p : Problem) (v w : ℕ) → List ℕ
above_of p v w = filter (λ u. is_over (parent_of p.tree.nodes) u w) (live_children p v)

pub spliced_rows : (p : Problem) (v : ℕ) → (ℕ → ℕ) → (ℕ → List ℕ) → List ℕ
spliced_rows p v row rows_of = map (λ w. first_row row rows_of w (above_of p v w)) (node_numbers (length p.tree.nodes))

row_read : (p : Problem) (v : ℕ) (row : ℕ → ℕ) (rows_of : ℕ → List ℕ) (w : ℕ) → w < length p.tree.nodes
    → chosen_at (spliced_rows p v row rows_of) w ≡ first_row row rows_of w (above_of p v w)
unfolding spliced_rows
row_read p v row rows_of w w_n = get_or-map-range_with_len (λ w. first_row row rows_of w (above_of p v w)) 0 (length p.tree.nodes) w w 0 w_n (omega arith)

rows_length : (p : Problem) (v : ℕ) (row : ℕ → ℕ) (rows_of : ℕ → List ℕ) → length (spliced_rows p v row rows_of) ≡ length p.tree.nodes
unfolding spliced_rows
rows_length p v row rows_of = length-map-range_with_len (λ w. first_row row rows_of w (above_of p v w)) 0 (length p.tree.nodes)

row_past : (p : Problem) (v : ℕ) (row : ℕ → ℕ) (rows_of : ℕ → List ℕ) (w : ℕ) → length p.tree.nodes ≤ w → chosen_at (spliced_rows p v row rows_of) w ≡ 0
row_past p v row rows_of w high = get_or_past (spliced_rows p v row rows_of) w 0 (omega (arith, rows_length p v row rows_of))

first_row_is : (row : ℕ → ℕ) (rows_of : ℕ → List ℕ) (w u : ℕ) (us : List ℕ) → Contains us u → ((h : ℕ) → Contains us h → h ≡ u)
    → first_row row rows_of w us ≡ row_by row rows_of w u
unfolding first_row
first_row_is row rows_of w u [] (k, k_n, e) only = absurd (omega arith)
first_row_is row rows_of w u (h ∷ us) found only = ap (row_by row rows_of w) (only h (0, omega arith, refl))

first_row_has : (Q : ℕ → Type 0) (row : ℕ → ℕ) (rows_of : ℕ → List ℕ) (w : ℕ) (us : List ℕ) → Q 0
    → ((u : ℕ) → Contains us u → Q (row_by row rows_of w u)) → Q (first_row row rows_of w us)
unfolding first_row
first_row_has Q row rows_of w [] none each = none
first_row_has Q row rows_of w (u ∷ us) none each = each u (0, omega arith, refl)

-- what is so of the first row, and of each row at and below the live children, is so of the rows put together
rows_have : (p : Problem) (v : ℕ) (row : ℕ → ℕ) (rows_of : ℕ → List ℕ) (Q : ℕ → ℕ → Type 0) → ((w : ℕ) → Q w 0)
    → ((u w : ℕ) → Contains (live_children p v) u → is_over (parent_of p.tree.nodes) u w ≡ true → Q w (row_by row rows_of w u))
    → (w : ℕ) → Q w (chosen_at (spliced_rows p v row rows_of) w)
unfolding above_of
rows_have p v row rows_of Q none each w =
    elim (cases_lt w (length p.tree.nodes)) [
      | inr high ↦ subst (Q w) (sym (row_past p v row rows_of w high)) (none w)
      | inl low ↦
          subst (Q w) (sym (row_read p v row rows_of w low))
          (first_row_has (Q w) row rows_of w (above_of p v w) (none w) (λ u found.
          let (child, over) = filter_parts (λ x. is_over (parent_of p.tree.nodes) x w) (live_children p v) u found in
          each u w child over))
    ]

-- the row of a live child, and those below it
row_at_child : (p : Problem) (v : ℕ) (row : ℕ → ℕ) (rows_of : ℕ → List ℕ) (u w : ℕ) → Contains (live_children p v) u → w < length p.tree.nodes
    → is_over (parent_of p.tree.nodes) u w ≡ true → chosen_at (spliced_rows p v row rows_of) w ≡ row_by row rows_of w u
unfolding above_of
row_at_child p v row rows_of u w found low over =
    let child : IsLiveChild p v u = live_child_parts p v u found in
    row_read p v row rows_of w low
    ∙ first_row_is row rows_of w u (above_of p v w) (in_filter (λ x. is_over (parent_of p.tree.nodes) x w) (live_children p v) u found over)
    (λ h h_in.
    let (h_found, h_over) = filter_parts (λ x. is_over (parent_of p.tree.nodes) x w) (live_children p v) h h_in in
    one_child p.tree.nodes p.tree.a_tree v h u w (live_child_parts p v h h_found).child child.child h_over over)

row_by_other : (row : ℕ → ℕ) (rows_of : ℕ → List ℕ) (w u : ℕ) → w ≢ u → row_by row rows_of w u ≡ chosen_at (rows_of u) w
unfolding row_by
row_by_other row rows_of w u w_u = ap (λ b. cond b (row u) (chosen_at (rows_of u) w)) (ne_eqb w u w_u)

row_by_self : (row : ℕ → ℕ) (rows_of : ℕ → List ℕ) (u : ℕ) → row_by row rows_of u u ≡ row u
unfolding row_by
row_by_self row rows_of u = ap (λ b. cond b (row u) (chosen_at (rows_of u) u)) (eq-eqb u u refl)

row_by_has : (Q : ℕ → Type 0) (row : ℕ → ℕ) (rows_of : ℕ → List ℕ) (w u : ℕ) → (w ≡ u → Q (row u)) → (w ≢ u → Q (chosen_at (rows_of u) w)) → Q (row_by row rows_of w u)
unfolding row_by
row_by_has Q row rows_of w u here below =
    elim (cases_eq w u) [
      | inl e ↦ subst (λ b. Q (cond b (row u) (chosen_at (rows_of u) w))) (sym (eq-eqb w u e)) (here e)
      | inr ne ↦ subst (λ b. Q (cond b (row u) (chosen_at (rows_of u) w))) (sym (ne_eqb w u ne)) (below ne)
    ]

pub rows_lawful : (p : Problem) (widths : List Width) (v : ℕ) (row : ℕ → ℕ) (rows_of : ℕ → List ℕ) → AreWidths widths
    → ((u : ℕ) → Contains (live_children p v) u → row u < length widths) → ((u : ℕ) → Contains (live_children p v) u → IsLawful p widths (rows_of u))
    → IsLawful p widths (spliced_rows p v row rows_of)
rows_lawful p widths v row rows_of are row_in lawful = record {
  one_each = rows_length p v row rows_of;
  rows =
      rows_have p v row rows_of (λ w i. i < length widths) (λ w. are.some)
      (λ u w found over. row_by_has (λ i. i < length widths) row rows_of w u (λ _. row_in u found) (λ _. (lawful u found).rows w));
  root =
      rows_have p v row rows_of (λ w i. w ≡ 0 → i ≡ 0) (λ w _. refl)
      (λ u w found over w_0.
      absurd (omega (
        arith,
        w_0,
        over_le (parent_of p.tree.nodes) (tree_falls p.tree.nodes p.tree.a_tree) u w over,
        child_above p.tree.nodes p.tree.a_tree v u (live_child_parts p v u found).child,
      ))) 0 refl;
  dead =
      rows_have p v row rows_of (λ w i. is_live p.tree.nodes p.sinks w ≡ false → i ≡ 0) (λ w _. refl)
      (λ u w found over dead.
      row_by_has (λ i. i ≡ 0) row rows_of w u
      (λ e. absurd (false≢true (sym dead ∙ ap (is_live p.tree.nodes p.sinks) e ∙ (live_child_parts p v u found).live)))
      (λ _. (lawful u found).dead w dead));
}

-- the row of a live child's wire is its own, and below it the rows are those of the child's choice
pub spliced_own : (p : Problem) (v : ℕ) (row : ℕ → ℕ) (rows_of : ℕ → List ℕ) (u : ℕ) → Contains (live_children p v) u
    → chosen_at (spliced_rows p v row rows_of) u ≡ row u
spliced_own p v row rows_of u found =
    row_at_child p v row rows_of u u found (live_child_parts p v u found).child.node (over_self (parent_of p.tree.nodes) (tree_falls p.tree.nodes p.tree.a_tree) u)
    ∙ row_by_self row rows_of u

pub spliced_rows_below : (p : Problem) (v : ℕ) (row : ℕ → ℕ) (rows_of : ℕ → List ℕ) (u : ℕ) → Contains (live_children p v) u
    → length (rows_of u) ≡ length p.tree.nodes → (w : ℕ) → is_over (parent_of p.tree.nodes) u w ≡ true → w ≢ u
    → chosen_at (rows_of u) w ≡ chosen_at (spliced_rows p v row rows_of) w
spliced_rows_below p v row rows_of u found one_each w over w_u =
    elim (cases_lt w (length p.tree.nodes)) [
      | inl low ↦ sym (row_at_child p v row rows_of u w found low over ∙ row_by_other row rows_of w u w_u)
      | inr high ↦
          get_or_past (rows_of u) w 0 (omega (arith, one_each))
          ∙ sym (row_past p v row rows_of w high)
    ]

pub join_within : (p : Problem) (widths : List Width) (v own : ℕ) (pick : ℕ → Pair) (row : ℕ → ℕ) (y : Pair) → IsWideJoinOf p widths (fork_of v own (live_children p v)) pick row y → v < length p.tree.nodes
join_within p widths v own pick row y is =
    elim is.met [
      | inl (u, found, e) ↦
          let child : IsLiveChild p v u = live_child_parts p v u found in
          omega (arith, child_above p.tree.nodes p.tree.a_tree v u child.child, child.child.node)
      | inr (sink, here, e) ↦ omega (arith, within_sinks p.sinks v sink here, p.sinks_each)
    ]

-- a placement and a choice of widths
record Choice : Type 0 where
  cells : List (Option ℕ)
  rows : List ℕ

IsOf : (p : Problem) (widths : List Width) → Bool → (ℕ → Pair) → ℕ → Choice → Type 0
IsOf p widths odd pick u k = IsWidePairOf p widths u odd k.cells k.rows (pick u)

choice : (p : Problem) (widths : List Width) (odd : Bool) (pick : ℕ → Pair) (u : ℕ) → IsWidePairAt p widths u odd (pick u) → (k : Choice) × IsOf p widths odd pick u k
unfolding IsOf
choice p widths odd pick u (cells, rows, is) = (record { cells = cells; rows = rows }, is)

pub splice_wide : (p : Problem) (widths : List Width) (v : ℕ) (odd : Bool) (own : Option ℕ) (cells_of : ℕ → List (Option ℕ)) (rows_of : ℕ → List ℕ) (pick : ℕ → Pair) (row : ℕ → ℕ) (y : Pair)
    → AreWidths widths → MayHave p v own y.c
    → IsWideOpenBy p widths (λ u o x. IsWidePairOf p widths u o (cells_of u) (rows_of u) x) (past_cell (rep_of p.reps own) odd) (whole_fork p v) pick row y
    → IsWidePairOf p widths v odd (spliced p v own cells_of) (spliced_rows p v row rows_of) (with_cell (rep_of p.reps own) y)
splice_wide p widths v odd own cells_of rows_of pick row y are may is = whole
  where
    cells : List (Option ℕ)
    cells = spliced p v own cells_of

    v_n : v < length p.tree.nodes
    v_n = join_within p widths v (own_capacitance p v) pick row y is.joined

    sound : IsSound p (spliced p v own cells_of)
    sound = spliced_sound p v own cells_of (λ b e. ((may b e).at_place, (may b e).named)) (λ u found. record { placement = (is.chosen u found).placement; placed = (is.chosen u found).placed })

    lawful : IsLawful p widths (spliced_rows p v row rows_of)
    lawful = rows_lawful p widths v row rows_of are is.rows (λ u found. (is.chosen u found).lawful)

    here : slice_index_or (spliced p v own cells_of) v None ≡ own
    here = spliced_here p v own cells_of v_n

    past : (u : ℕ) → Contains (live_children p v) u → (w : ℕ) → length p.tree.nodes ≤ w → slice_index_or (cells_of u) w None ≡ None
    past u found w high = get_or_past (cells_of u) w None (omega (arith, (is.chosen u found).placement.one_each))

    below : (u : ℕ) → Contains (live_children p v) u → (w : ℕ) → is_over (parent_of p.tree.nodes) u w ≡ true → w ≢ u
        → chosen_at (rows_of u) w ≡ chosen_at (spliced_rows p v row rows_of) w
    below u found = spliced_rows_below p v row rows_of u found (is.chosen u found).lawful.one_each

    row_is : (u : ℕ) → Contains (live_children p v) u → chosen_at (spliced_rows p v row rows_of) u ≡ row u
    row_is u found = spliced_own p v row rows_of u found

    is_open : IsWideOpenBy p widths (wide_pairs_of p widths (spliced p v own cells_of) (spliced_rows p v row rows_of)) (past_cell (rep_of p.reps own) odd)
        (whole_fork p v) pick (chosen_at (spliced_rows p v row rows_of)) y
    is_open = record {
      chosen = λ u found.
          wide_alike p widths u (past_cell (rep_of p.reps own) odd) (cells_of u) cells (rows_of u) (spliced_rows p v row rows_of) (pick u)
          (spliced_below p v own cells_of u found (past u found)) (below u found)
          sound.placement sound.placed lawful (is.chosen u found);
      rows = λ u found. lawful.rows u;
      wanted = is.wanted;
      joined = record {
        least = λ u found. subst (λ i. y.q ≤ℤ (carried_by p widths u i (pick u)).q) (sym (row_is u found)) (is.joined.least u found);
        in_time = is.joined.in_time;
        met = elim is.joined.met [
          | inl (u, found, e) ↦ inl (u, found, e ∙ ap (λ i. (carried_by p widths u i (pick u)).q) (sym (row_is u found)))
          | inr at_sink ↦ inr at_sink
        ];
        load =
            is.joined.load
            ∙ ap (λ k. own_capacitance p v + k) (sum_alike_in
            (λ u. (carried_by p widths u (row u) (pick u)).c)
            (λ u. (carried_by p widths u (chosen_at (spliced_rows p v row rows_of) u) (pick u)).c) (live_children p v)
            (λ u found. ap (λ i. (carried_by p widths u i (pick u)).c) (sym (row_is u found))));
      };
    }

    whole : IsWidePairOf p widths v odd (spliced p v own cells_of) (spliced_rows p v row rows_of) (with_cell (rep_of p.reps own) y)
    whole =
        subst (λ (o : Option ℕ). IsWidePairOf p widths v odd cells (spliced_rows p v row rows_of) (with_cell (rep_of p.reps o) y)) here
        (wide_pair_whole p widths v odd cells (spliced_rows p v row rows_of) pick y are v_n sound.placement sound.placed lawful (λ b e. may b (sym here ∙ e))
        (subst (λ (o : Option ℕ). IsWideOpenBy p widths (wide_pairs_of p widths (spliced p v own cells_of) (spliced_rows p v row rows_of)) (past_cell (rep_of p.reps o) odd)
        (whole_fork p v) pick (chosen_at (spliced_rows p v row rows_of)) y) (sym here) is_open))

-- what comes from pairs at the live children is a pair at the node
pub step_wide : (p : Problem) (widths : List Width) (v : ℕ) (odd : Bool) (x : Pair) → AreWidths widths
    → IsWideStep p widths (IsWidePairAt p widths) v odd x → IsWidePairAt p widths v odd x
unfolding IsOf
step_wide p widths v odd x are (own, y, may, (pick, row, is), x_is) = (
  spliced p v own (λ u. (each u).0.cells),
  spliced_rows p v row (λ u. (each u).0.rows),
  subst (IsWidePairOf p widths v odd (spliced p v own (λ u. (each u).0.cells)) (spliced_rows p v row (λ u. (each u).0.rows))) (sym x_is)
      (splice_wide p widths v odd own (λ u. (each u).0.cells) (λ u. (each u).0.rows) pick row y are may
      (record { chosen = λ u found. (each u).1 found; rows = is.rows; wanted = is.wanted; joined = is.joined })),
)
  where
    each : (u : ℕ) → (k : Choice) × (Contains (live_children p v) u → IsOf p widths (past_cell (rep_of p.reps own) odd) pick u k)
    each =
        choose (live_children p v) (IsOf p widths (past_cell (rep_of p.reps own) odd) pick) (λ _. record { cells = []; rows = [] })
        (λ u found. choice p widths (past_cell (rep_of p.reps own) odd) pick u (is.chosen u found))

pub wide_within : (p : Problem) (widths : List Width) (v : ℕ) (odd : Bool) (cells : List (Option ℕ)) (rows : List ℕ) (x : Pair)
    → IsWidePairOf p widths v odd cells rows x → v < length p.tree.nodes
wide_within p widths v odd cells rows x is =
    let (w, sink, under, e) = is.met in
    omega (arith, over_le (parent_of p.tree.nodes) (tree_falls p.tree.nodes p.tree.a_tree) v w under.under, within_sinks p.sinks w sink under.there, p.sinks_each)

-- a placement's own cell at v may stand there, for the load of its choice
wide_made_may : (p : Problem) (widths : List Width) (v : ℕ) (odd : Bool) (cells : List (Option ℕ)) (rows : List ℕ) (x : Pair) (pick : ℕ → Pair) (y : Pair)
    → IsWidePairOf p widths v odd cells rows x → IsMadeOf p widths v odd cells rows x pick y → MayHave p v (slice_index_or cells v None) y.c
wide_made_may p widths v odd cells rows x pick y is made =
    subst (MayHave p v (slice_index_or cells v None)) (sym made.load) (is.fits v (over_self (parent_of p.tree.nodes) (tree_falls p.tree.nodes p.tree.a_tree) v))

-- each pair at a node comes from pairs at its live children
pub wide_steps : (p : Problem) (widths : List Width) (v : ℕ) (odd : Bool) (x : Pair) → AreWidths widths
    → IsWidePairAt p widths v odd x → IsWideStep p widths (IsWidePairAt p widths) v odd x
wide_steps p widths v odd x are (cells, rows, is) =
    let (pick, y, made) = wide_pair_parts p widths v odd cells rows x are (wide_within p widths v odd cells rows x is) is in (
      slice_index_or cells v None,
      y,
      wide_made_may p widths v odd cells rows x pick y is made,
      (
        pick,
        chosen_at rows,
        record {
          chosen = λ u found. (cells, rows, made.open_pair.chosen u found);
          rows = made.open_pair.rows;
          wanted = made.open_pair.wanted;
          joined = made.open_pair.joined;
        },
      ),
      made.made,
    )
