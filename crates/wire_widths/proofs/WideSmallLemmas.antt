-- How large loads, delays and the numbers of a pair can be with any widths.
use Rattle.std.proofs.Common.{◌≡◌, ◌≢◌, ℕ, zero, suc, ◌+◌, ◌-◌, ◌*◌, ◌/◌, ◌^◌, ◌<◌, ◌≤◌, ◌==◌, Bool, true, cond, List, [], ◌∷◌, map, length, slice_index_or, refl, sym, ap, ◌∙◌, subst, arith, inl, inr, pos, ◌-ℤ◌, ◌≤ℤ◌, not, Option, None}
use Rattle.std.proofs.lemmas.Bool.{cases_eq, cases_lt, cases_Bool, eq-eqb, ne_eqb, false≢true}
use Rattle.std.proofs.lemmas.Int.{ints}
use Rattle.std.proofs.lemmas.List.{get_or_past}
use Rattle.std.proofs.lemmas.List.Elements.{All-get_or}
use Rattle.std.proofs.lemmas.List.FromFn.{length-map-range_with_len, get_or-map-range_with_len}
use Rattle.std.proofs.Math.Nat.{mul-le-mul, mul-le-mul_left, div-lt_iff_lt-mul}
use Rattle.std.proofs.lemmas.List.Sums.{sum_by-cons}
use Rattle.std.specs.List.{Contains, filter, sum_by, range_with_len}
use Rattle.elmore.specs.Cells.{cell_at}
use Rattle.elmore.specs.Legal.{IsPlaced}
use Rattle.elmore.specs.Path.{is_over, is_child, nodes as node_numbers}
use Rattle.elmore.specs.Placements.{IsPlacement}
use Rattle.elmore.specs.Problems.{IsSmall, is_live}
use Rattle.elmore.specs.Wire.{downstream_in}
use Rattle.elmore.specs.Trees.{parent_of, resistance, capacitance}
use Rattle.elmore.specs.declared.pair.Pair.{Pair}
use Rattle.elmore.specs.declared.problem.Problem.{Problem}
use Rattle.elmore.proofs.CellLemmas.{inputs_le}
use Rattle.elmore.proofs.PlacedTreeLemmas.{capacitance_sum, cell_delay_small}
use Rattle.elmore.proofs.SumLemmas.{sum_of_filter}
use Rattle.elmore.proofs.TreeLemmas.{tree_falls, tree_of, sum_of_nodes}
use Rattle.elmore.proofs.LeastLemmas.{within_sinks}
use Rattle.elmore.proofs.RootLemmas.{root_over}
use Rattle.elmore.proofs.WayLemmas.{way_sum_below}
use Rattle.cand_pairs.proofs.ChildLemmas.{child_above}
use Rattle.cand_pairs.proofs.FromLemmas.{range_step}
use Rattle.cand_pairs.proofs.ChoiceLemmas.{in_list, sum_le_in, sum_alike_in}
use Rattle.cand_pairs.proofs.PairPartLemmas.{IsLiveChild, live_child_parts}
use Rattle.cand_pairs.proofs.SmallPairLemmas.{resistance_small, live_from_in, empty_cells, empty_sound}
use Rattle.cand_pairs.proofs.SpliceLemmas.{IsSound, spliced, spliced_below, spliced_sound}
use Rattle.wire_widths.specs.Fits.{Fits, most_added}
use Rattle.cand_pairs.specs.Candidates.{IsLive}
use Rattle.cand_pairs.specs.Merging.{IsSmallPair, live_from}
use Rattle.wire_widths.specs.WidePairs.{IsWidePairOf, IsWidePairAt, carried_by}
use Rattle.wire_widths.specs.WideParts.{IsWideOpenFrom}
use Rattle.wire_widths.specs.Widths.{IsWidth, AreWidths, IsLawful, plain, width_at, chosen_at, resistance_by, added_by, wire_r, wire_a, r_of, a_of, wide_load_of, wide_input_load_of, wide_delay_between}
use Rattle.wire_widths.specs.declared.width.Width.{Width}
use Rattle.wire_widths.proofs.WideBoundLemmas.{all_charge, wide_load_bound, wide_input_load_bound, wide_delay_bound}
use Rattle.wire_widths.proofs.WideLoadLemmas.{wide_parts, wide_step, wide_through}
use Rattle.wire_widths.proofs.WidePartLemmas.{dead_adds, plain_adds, wide_own, wide_delay_own, wide_live}
use Rattle.wire_widths.proofs.WideSpliceLemmas.{wide_alike, wide_within, spliced_rows, rows_lawful, spliced_own, spliced_rows_below}

-- A WIDTH makes no wire's resistance greater
less_by : (w : Width) (r : ℕ) → IsWidth w → resistance_by w r ≤ r
less_by w r is =
    let some : 0 < 2 * w.den = omega (arith, is.some, is.less) in
    let under : 2 * (r * w.num) + w.den < (r + 1) * (2 * w.den) = omega (arith, is.some, is.less, mul-le-mul_left r is.less) in
    let less : (2 * (r * w.num) + w.den) / (2 * w.den) < r + 1 = (div-lt_iff_lt-mul some).1 under in
    omega (arith, less)

plain_is : IsWidth plain
plain_is = record { some = omega arith; less = omega arith; den = omega arith; add = omega arith }

width_is : (widths : List Width) (i : ℕ) → AreWidths widths → IsWidth (width_at widths i)
width_is widths i are =
    elim (cases_lt i (length widths)) [
      | inl low ↦ All-get_or IsWidth widths i plain low are.each
      | inr high ↦ subst IsWidth (sym (get_or_past widths i plain high)) plain_is
    ]

pub wire_r_less : (p : Problem) (widths : List Width) (i u : ℕ) → AreWidths widths → wire_r p widths i u ≤ resistance p.tree.nodes u
wire_r_less p widths i u are = less_by (width_at widths i) (resistance p.tree.nodes u) (width_is widths i are)

pub wire_r_small : (p : Problem) (widths : List Width) (i u : ℕ) → AreWidths widths → u < length p.tree.nodes → wire_r p widths i u ≤ 10 ^ 12
wire_r_small p widths i u are u_n = omega (arith, wire_r_less p widths i u are, resistance_small p u u_n)

-- and adds no more than the greatest
added_most : (widths : List Width) (r i : ℕ) → added_by (width_at widths i) r ≤ most_added widths r
added_most [] r i = omega (arith, ap (λ (w : Width). added_by w r) (get_or_past [] i plain (omega arith)), plain_adds r)
added_most (w ∷ widths) r zero = omega arith
added_most (w ∷ widths) r (suc i) = omega (arith, added_most widths r i)

added_where : (p : Problem) (widths : List Width) (rows : List ℕ) (u : ℕ) → AreWidths widths → IsLawful p widths rows
    → a_of p widths rows u ≤ cond (is_live p.tree.nodes p.sinks u) (most_added widths (resistance p.tree.nodes u)) 0
added_where p widths rows u are lawful =
    elim (cases_Bool (is_live p.tree.nodes p.sinks u)) [
      | inl live ↦ rw (live) (added_most widths (resistance p.tree.nodes u) (chosen_at rows u))
      | inr dead ↦ rw (dead) (omega (arith, dead_adds p widths rows are lawful u dead))
    ]

-- ALL CHARGE of a placement and widths is within the limit
pub charge_fits : (p : Problem) (widths : List Width) (cells : List (Option ℕ)) (rows : List ℕ) → AreWidths widths → Fits p widths
    → IsPlacement p cells → IsPlaced p cells → IsLawful p widths rows
    → all_charge (capacitance p.tree.nodes) (a_of p widths rows) (cell_at p.reps cells) (length p.tree.nodes) ≤ 10 ^ 11
charge_fits p widths cells rows are fit placement placed lawful =
    omega (
      arith,
      fit,
      capacitance_sum p.tree.nodes p.reps cells placement,
      inputs_le p.reps cells p.places placed,
      sum_of_filter (λ u. most_added widths (resistance p.tree.nodes u)) (is_live p.tree.nodes p.sinks) (node_numbers (length p.tree.nodes)),
      sum_le_in (a_of p widths rows) (λ u. cond (is_live p.tree.nodes p.sinks u) (most_added widths (resistance p.tree.nodes u)) 0)
          (node_numbers (length p.tree.nodes)) (λ u _. added_where p widths rows u are lawful),
    )

pub wide_load_small : (p : Problem) (widths : List Width) (cells : List (Option ℕ)) (rows : List ℕ) (v : ℕ) → AreWidths widths → Fits p widths
    → IsPlacement p cells → IsPlaced p cells → IsLawful p widths rows → v < length p.tree.nodes → wide_load_of p widths cells rows v ≤ 10 ^ 11
wide_load_small p widths cells rows v are fit placement placed lawful v_n =
    omega (
      arith,
      wide_load_bound (parent_of p.tree.nodes) (length p.tree.nodes) (tree_of p.tree.nodes p.tree.a_tree) (capacitance p.tree.nodes)
          (a_of p widths rows) (cell_at p.reps cells) v v_n,
      charge_fits p widths cells rows are fit placement placed lawful,
    )

-- the resistances of the wires together
all_r_small : (p : Problem) (widths : List Width) (rows : List ℕ) → AreWidths widths → sum_by (r_of p widths rows) (node_numbers (length p.tree.nodes)) ≤ 10 ^ 12
all_r_small p widths rows are =
    omega (
      arith,
      sum_le_in (r_of p widths rows) (resistance p.tree.nodes) (node_numbers (length p.tree.nodes)) (λ u _. wire_r_less p widths (chosen_at rows u) u are),
      sum_of_nodes (λ node. node.r) p.tree.nodes,
      p.within.resistances,
    )

pub wide_delay_small : (p : Problem) (widths : List Width) (cells : List (Option ℕ)) (rows : List ℕ) (w : ℕ) → AreWidths widths → Fits p widths
    → IsPlacement p cells → IsPlaced p cells → IsLawful p widths rows → w < length p.tree.nodes → wide_delay_between p widths cells rows 0 w ≤ 9 * 10 ^ 24
wide_delay_small p widths cells rows w are fit placement placed lawful w_n =
    omega (
      arith,
      wide_delay_bound (parent_of p.tree.nodes) (length p.tree.nodes) (tree_of p.tree.nodes p.tree.a_tree) (r_of p widths rows) (capacitance p.tree.nodes)
          (a_of p widths rows) (cell_at p.reps cells) (101 * 10 ^ 18) p.tree.a_tree.some_node
          (λ u u_n. cell_delay_small p.reps p.within.each_repeater (slice_index_or cells u None) _ (wide_load_small p widths cells rows u are fit placement placed lawful u_n)) w w_n,
      mul-le-mul (charge_fits p widths cells rows are fit placement placed lawful) (all_r_small p widths rows are),
      p.within.nodes,
    )

-- A PART OF A PATH is no longer than the whole
own_less : (p : Problem) (widths : List Width) (cells : List (Option ℕ)) (rows : List ℕ) (v : ℕ) → v < length p.tree.nodes
    → wide_own p widths cells rows v ≤ wide_delay_between p widths cells rows 0 v
own_less p widths cells rows v v_n =
    elim (cases_eq v 0) [
      | inl e ↦ subst (λ (u : ℕ). wide_own p widths cells rows u ≤ wide_delay_between p widths cells rows 0 u) (sym e) (omega (arith, wide_delay_own p widths cells rows 0))
      | inr other ↦
          omega (
            arith,
            wide_parts (parent_of p.tree.nodes) (r_of p widths rows) (a_of p widths rows) (capacitance p.tree.nodes) (cell_at p.reps cells) (length p.tree.nodes) 0 v,
            way_sum_below (parent_of p.tree.nodes) (tree_falls p.tree.nodes p.tree.a_tree)
                (wide_step (parent_of p.tree.nodes) (r_of p widths rows) (a_of p widths rows) (capacitance p.tree.nodes) (cell_at p.reps cells) (length p.tree.nodes)) 0 v
                (λ e. omega (arith, p.tree.a_tree.smaller v (omega arith) v_n)) other,
          )
    ]

delay_less : (p : Problem) (widths : List Width) (cells : List (Option ℕ)) (rows : List ℕ) (v w : ℕ) → v < length p.tree.nodes
    → is_over (parent_of p.tree.nodes) v w ≡ true → wide_delay_between p widths cells rows v w ≤ wide_delay_between p widths cells rows 0 w
delay_less p widths cells rows v w v_n over =
    omega (
      arith,
      wide_through (parent_of p.tree.nodes) (r_of p widths rows) (a_of p widths rows) (capacitance p.tree.nodes) (cell_at p.reps cells)
          (tree_falls p.tree.nodes p.tree.a_tree) (length p.tree.nodes) 0 v w (root_over (parent_of p.tree.nodes) (length p.tree.nodes) (tree_of p.tree.nodes p.tree.a_tree) v v_n) over,
      own_less p widths cells rows v v_n,
    )

-- what is seen of a node, with what its wire adds
seen_small : (p : Problem) (widths : List Width) (cells : List (Option ℕ)) (rows : List ℕ) (v : ℕ) → AreWidths widths → Fits p widths
    → IsPlacement p cells → IsPlaced p cells → IsLawful p widths rows → v < length p.tree.nodes
    → wide_input_load_of p widths cells rows v + a_of p widths rows v ≤ 10 ^ 11
seen_small p widths cells rows v are fit placement placed lawful v_n =
    omega (
      arith,
      wide_input_load_bound (parent_of p.tree.nodes) (length p.tree.nodes) (tree_of p.tree.nodes p.tree.a_tree) (capacitance p.tree.nodes)
          (a_of p widths rows) (cell_at p.reps cells) v v_n,
      charge_fits p widths cells rows are fit placement placed lawful,
    )

-- A PAIR
pub wide_pair_small : (p : Problem) (widths : List Width) (v : ℕ) (odd : Bool) (x : Pair) → AreWidths widths → Fits p widths
    → IsWidePairAt p widths v odd x → IsSmallPair x
wide_pair_small p widths v odd x are fit (cells, rows, is) =
    let v_n : v < length p.tree.nodes = wide_within p widths v odd cells rows x is in
    let (w, sink, under, e) = is.met in
    let within : IsSmall sink.required = p.within.times w sink under.there in
    let w_n : w < length p.tree.nodes = omega (arith, within_sinks p.sinks w sink under.there, p.sinks_each) in
    record {
      low =
          omega (
            arith,
            ints,
            e,
            within.low,
            delay_less p widths cells rows v w v_n under.under,
            wide_delay_small p widths cells rows w are fit is.placement is.placed is.lawful w_n,
          );
      high = omega (arith, ints, e, within.high);
      load = omega (arith, is.load, seen_small p widths cells rows v are fit is.placement is.placed is.lawful v_n);
    }

-- the rows with another one for the wire of i
row_for : ℕ → ℕ → List ℕ → ℕ → ℕ
row_for i row rows u = cond (u == i) row (chosen_at rows u)

with_row_for : (p : Problem) → ℕ → ℕ → List ℕ → List ℕ
with_row_for p i row rows = map (row_for i row rows) (node_numbers (length p.tree.nodes))

for_length : (p : Problem) (i row : ℕ) (rows : List ℕ) → length (with_row_for p i row rows) ≡ length p.tree.nodes
unfolding with_row_for
for_length p i row rows = length-map-range_with_len (row_for i row rows) 0 (length p.tree.nodes)

for_own : (p : Problem) (i row : ℕ) (rows : List ℕ) → i < length p.tree.nodes → chosen_at (with_row_for p i row rows) i ≡ row
unfolding with_row_for row_for
for_own p i row rows i_n =
    get_or-map-range_with_len (row_for i row rows) 0 (length p.tree.nodes) i i 0 i_n (omega arith)
    ∙ ap (λ b. cond b row (chosen_at rows i)) (eq-eqb i i refl)

for_other : (p : Problem) (i row : ℕ) (rows : List ℕ) → length rows ≡ length p.tree.nodes → (u : ℕ) → u ≢ i
    → chosen_at (with_row_for p i row rows) u ≡ chosen_at rows u
unfolding with_row_for row_for
for_other p i row rows one_each u other =
    elim (cases_lt u (length p.tree.nodes)) [
      | inl low ↦
          get_or-map-range_with_len (row_for i row rows) 0 (length p.tree.nodes) u u 0 low (omega arith)
          ∙ ap (λ b. cond b row (chosen_at rows u)) (ne_eqb u i other)
      | inr high ↦
          get_or_past (with_row_for p i row rows) u 0 (omega (arith, for_length p i row rows))
          ∙ sym (get_or_past rows u 0 (omega (arith, one_each)))
    ]

for_lawful : (p : Problem) (widths : List Width) (i row : ℕ) (rows : List ℕ) → i < length p.tree.nodes → row < length widths → IsLive p i → i ≢ 0
    → IsLawful p widths rows → IsLawful p widths (with_row_for p i row rows)
for_lawful p widths i row rows i_n row_in live some lawful = record {
  one_each = for_length p i row rows;
  rows = λ u. elim (cases_eq u i) [
    | inl e ↦ omega (arith, ap (chosen_at (with_row_for p i row rows)) e, for_own p i row rows i_n, row_in)
    | inr other ↦ omega (arith, for_other p i row rows lawful.one_each u other, lawful.rows u)
  ];
  root = for_other p i row rows lawful.one_each 0 (λ e. some (sym e)) ∙ lawful.root;
  dead = λ u dead. elim (cases_eq u i) [
    | inl e ↦ absurd (false≢true (sym dead ∙ ap (is_live p.tree.nodes p.sinks) e ∙ live))
    | inr other ↦ for_other p i row rows lawful.one_each u other ∙ lawful.dead u dead
  ];
}

-- A PAIR THROUGH A WIRE under any row
pub wide_carried_small : (p : Problem) (widths : List Width) (row i : ℕ) (odd : Bool) (y : Pair) → AreWidths widths → Fits p widths
    → IsWidePairAt p widths i odd y → row < length widths → IsLive p i → i ≢ 0
    → (y.c + wire_a p widths row i ≤ 10 ^ 11) × (wire_r p widths row i * (y.c + wire_a p widths row i) ≤ 10 ^ 23)
wide_carried_small p widths row i odd y are fit (cells, rows, is) row_in live some =
    let i_n : i < length p.tree.nodes = wide_within p widths i odd cells rows y is in
    let lawful : IsLawful p widths (with_row_for p i row rows) = for_lawful p widths i row rows i_n row_in live some is.lawful in
    let same : IsWidePairOf p widths i odd cells (with_row_for p i row rows) y =
    wide_alike p widths i odd cells cells rows (with_row_for p i row rows) y (λ u _. refl)
    (λ u _ other. sym (for_other p i row rows is.lawful.one_each u other)) is.placement is.placed lawful is in
    let small : y.c + wire_a p widths row i ≤ 10 ^ 11 =
    omega (
      arith,
      same.load,
      ap (λ k. wire_a p widths k i) (for_own p i row rows i_n),
      seen_small p widths cells (with_row_for p i row rows) i are fit is.placement is.placed lawful i_n,
    ) in
    (small, omega (arith, mul-le-mul (wire_r_small p widths row i are i_n) small))

-- AND WHAT IS OPEN of them
pub wide_open_times : (p : Problem) (widths : List Width) (i v : ℕ) (odd : Bool) (x : Pair) → AreWidths widths → Fits p widths
    → IsWideOpenFrom p widths i v odd x → ((pos 0 -ℤ pos (10 ^ 25)) ≤ℤ x.q) × (x.q ≤ℤ pos (10 ^ 23))
wide_open_times p widths i v odd x are fit (pick, row, is) =
    elim is.joined.met [
      | inl (u, found, e) ↦
          let child : IsLiveChild p v u = live_child_parts p v u (live_from_in p v i u found) in
          let small : IsSmallPair (pick u) = wide_pair_small p widths u odd (pick u) are fit (is.chosen u found) in
          let (_, charge) = wide_carried_small p widths (row u) u odd (pick u) are fit (is.chosen u found) (is.rows u found) child.live
          (λ u_0. omega (arith, u_0, child_above p.tree.nodes p.tree.a_tree v u child.child)) in
          (omega (arith, ints, e, small.low, charge), omega (arith, ints, e, small.high))
      | inr (sink, here, e) ↦
          let within : IsSmall sink.required = p.within.times v sink here in
          (omega (arith, ints, e, within.low), omega (arith, ints, e, within.high))
    ]

-- rows that leave all wires as they are
plain_rows : (p : Problem) → List ℕ
plain_rows p = map (λ _. 0) (node_numbers (length p.tree.nodes))

plain_at : (p : Problem) (u : ℕ) → chosen_at (plain_rows p) u ≡ 0
unfolding plain_rows
plain_at p u =
    elim (cases_lt u (length p.tree.nodes)) [
      | inl low ↦ get_or-map-range_with_len (λ _. 0) 0 (length p.tree.nodes) u u 0 low (omega arith)
      | inr high ↦ get_or_past (plain_rows p) u 0 (omega (arith, length-map-range_with_len {X = ℕ} (λ _. 0) 0 (length p.tree.nodes)))
    ]

plain_lawful : (p : Problem) (widths : List Width) → AreWidths widths → IsLawful p widths (plain_rows p)
unfolding plain_rows
plain_lawful p widths are = record {
  one_each = length-map-range_with_len {X = ℕ} (λ _. 0) 0 (length p.tree.nodes);
  rows = λ u. omega (arith, plain_at p u, are.some);
  root = plain_at p 0;
  dead = λ u _. plain_at p u;
}

-- a placement and rows for a child, of which its pair is where the child came in
record Part (p : Problem) (widths : List Width) (odd : Bool) (u : ℕ) (x : Pair) (own : ℕ) (In : Type 0) : Type 0 where
  cells : List (Option ℕ)
  rows : List ℕ
  row : ℕ
  sound : IsSound p cells
  lawful : IsLawful p widths rows
  row_in : row < length widths
  pair : In → IsWidePairOf p widths u odd cells rows x
  row_is : In → row ≡ own

-- SUMS OVER A PART of the children are at most those over all
sum_from_le : (f : ℕ → ℕ) (i n : ℕ) → sum_by f (range_with_len i (n - i)) ≤ sum_by f (node_numbers n)
sum_from_le f zero n =
    let all : n - 0 ≡ n = omega arith in
    omega (arith, ap (λ (k : ℕ). sum_by f (range_with_len 0 k)) all)
sum_from_le f (suc i) n =
    elim (cases_lt i n) [
      | inl low ↦
          let next : suc i ≡ i + 1 = omega arith in
          omega (
            arith,
            sum_from_le f i n,
            ap (sum_by f) (range_step i n low),
            sum_by-cons f i (range_with_len (i + 1) (n - (i + 1))),
            ap (λ (k : ℕ). sum_by f (range_with_len k (n - k))) next,
          )
      | inr high ↦
          let none : n - suc i ≡ 0 = omega arith in
          omega (arith, ap (λ (k : ℕ). sum_by f (range_with_len (suc i) k)) none)
    ]

part_le : (f : ℕ → ℕ) (live child : ℕ → Bool) (i n : ℕ)
    → sum_by f (filter live (filter child (range_with_len i (n - i)))) ≤ sum_by f (filter live (filter child (node_numbers n)))
part_le f live child i n =
    omega (
      arith,
      sum_of_filter f live (filter child (range_with_len i (n - i))),
      sum_of_filter (λ (u : ℕ). cond (live u) (f u) 0) child (range_with_len i (n - i)),
      sum_of_filter f live (filter child (node_numbers n)),
      sum_of_filter (λ (u : ℕ). cond (live u) (f u) 0) child (node_numbers n),
      sum_from_le (λ u. cond (child u) (cond (live u) (f u) 0) 0) i n,
    )

-- THE LOAD of a part of a node is that of some placement and widths, at most
pub wide_open_small : (p : Problem) (widths : List Width) (i v : ℕ) (odd : Bool) (x : Pair) → AreWidths widths → Fits p widths
    → v < length p.tree.nodes → IsWideOpenFrom p widths i v odd x → x.c ≤ 10 ^ 11
wide_open_small p widths i v odd x are fit v_n (pick, row, is) =
    omega (
      arith,
      is.joined.load,
      wide_load_small p widths cells rows v are fit sound.placement sound.placed lawful v_n,
      wide_live p widths cells rows are lawful sound.placed v v_n,
      part_le (λ u. wide_input_load_of p widths cells rows u + a_of p widths rows u) (λ u. is_live p.tree.nodes p.sinks u) (is_child (parent_of p.tree.nodes) v) i (length p.tree.nodes),
      part_le (downstream_in p.tree.nodes) (λ u. not (is_live p.tree.nodes p.sinks u)) (is_child (parent_of p.tree.nodes) v) i (length p.tree.nodes),
      sum_alike_in (λ u. (carried_by p widths u (row u) (pick u)).c) (λ u. wide_input_load_of p widths cells rows u + a_of p widths rows u) (live_from p v i) (λ u found.
          omega (
            arith,
            (wide_alike p widths u odd (each u).cells cells (each u).rows rows (pick u) (spliced_below p v None (λ w. (each w).cells) u (live_from_in p v i u found) (past u))
                (spliced_rows_below p v row_of_child (λ w. (each w).rows) u (live_from_in p v i u found) (each u).lawful.one_each)
                sound.placement sound.placed lawful ((each u).pair found)).load,
            ap (λ k. wire_a p widths k u) (spliced_own p v row_of_child (λ w. (each w).rows) u (live_from_in p v i u found) ∙ (each u).row_is found),
          )),
    )
  where
    each : (u : ℕ) → Part p widths odd u (pick u) (row u) (Contains (live_from p v i) u)
    each u =
        elim (in_list (live_from p v i) u) [
          | inl found ↦
              let (cells, rows, at) = is.chosen u found in
              record {
                cells = cells;
                rows = rows;
                row = row u;
                sound = record { placement = at.placement; placed = at.placed };
                lawful = at.lawful;
                row_in = is.rows u found;
                pair = λ _. at;
                row_is = λ _. refl;
              }
          | inr out ↦ record {
            cells = empty_cells p;
            rows = plain_rows p;
            row = 0;
            sound = empty_sound p;
            lawful = plain_lawful p widths are;
            row_in = are.some;
            pair = λ found. absurd (out found);
            row_is = λ found. absurd (out found);
          }
        ]

    row_of_child : ℕ → ℕ
    row_of_child u = (each u).row

    cells : List (Option ℕ)
    cells = spliced p v None (λ u. (each u).cells)

    rows : List ℕ
    rows = spliced_rows p v row_of_child (λ u. (each u).rows)

    sound : IsSound p (spliced p v None (λ u. (each u).cells))
    sound = spliced_sound p v None (λ u. (each u).cells) (λ b e. absurd (cc)) (λ u _. (each u).sound)

    lawful : IsLawful p widths (spliced_rows p v row_of_child (λ u. (each u).rows))
    lawful = rows_lawful p widths v row_of_child (λ u. (each u).rows) are (λ u _. (each u).row_in) (λ u _. (each u).lawful)

    past : (u : ℕ) → (w : ℕ) → length p.tree.nodes ≤ w → slice_index_or (each u).cells w None ≡ None
    past u w high = get_or_past (each u).cells w None (omega (arith, (each u).sound.placement.one_each))
