-- How large the numbers of a pair can be.
use Rattle.std.proofs.Common.{◌≡◌, ℕ, zero, suc, ◌+◌, ◌-◌, ◌^◌, ◌<◌, ◌≤◌, Bool, true, not, cond, List, map, length, slice_index_or, sym, ap, ◌∙◌, arith, inl, inr, pos, ◌-ℤ◌, ◌≤ℤ◌, Option, Some, None, ◌*◌}
use Rattle.std.proofs.lemmas.Bool.{cases_eq, cases_lt}
use Rattle.std.proofs.lemmas.Int.{ints}
use Rattle.std.proofs.lemmas.List.{get_or_past}
use Rattle.std.proofs.lemmas.List.Sums.{sum_by-cons}
use Rattle.std.proofs.lemmas.List.FromFn.{length-range_with_len, get_or-range_with_len, length-map-range_with_len, get_or-map-range_with_len}
use Rattle.std.specs.List.{Contains, filter, sum_by, range_with_len}
use Rattle.elmore.specs.Cells.{cell_at}
use Rattle.elmore.specs.Laws.{children_of}
use Rattle.elmore.specs.Pairs.{IsPairOf, IsPairAt}
use Rattle.elmore.specs.Path.{is_over, is_child, nodes as node_numbers}
use Rattle.elmore.specs.Placements.{input_load_of, delay_between}
use Rattle.elmore.specs.Problems.{IsSmall, is_live}
use Rattle.elmore.specs.Steps.{IsPlacedTree}
use Rattle.elmore.specs.Trees.{parent_of, resistance, capacitance}
use Rattle.elmore.specs.Wire.{downstream_in}
use Rattle.cand_pairs.specs.Candidates.{live_children, IsOpenWith, fork_of}
use Rattle.cand_pairs.specs.Merging.{IsSmallPair, children_from, live_from, own_from, fork_from}
use Rattle.elmore.specs.declared.pair.Pair.{Pair}
use Rattle.elmore.specs.declared.problem.Problem.{Problem}
use Rattle.elmore.proofs.RootLemmas.{root_over}
use Rattle.elmore.proofs.TreeLemmas.{tree_falls, tree_of, sum_of_nodes}
use Rattle.elmore.proofs.PlacedDelayLemmas.{delay_below, delay_through}
use Rattle.elmore.proofs.PlacedTreeLemmas.{load_small, input_load_small, delay_smaller}
use Rattle.elmore.proofs.ProblemLemmas.{placed_tree}
use Rattle.elmore.proofs.LeastLemmas.{within_sinks}
use Rattle.cand_pairs.proofs.ChildLemmas.{in_filter, filter_parts, in_nodes}
use Rattle.cand_pairs.proofs.LiveChildLemmas.{own_of, delay_own, load_live}
use Rattle.elmore.proofs.SumLemmas.{sum_of_filter, summand_le}
use Rattle.cand_pairs.proofs.ChoiceLemmas.{in_list, sum_alike_in}
use Rattle.cand_pairs.proofs.FromLemmas.{range_step}
use Rattle.cand_pairs.proofs.SpliceLemmas.{IsSound, pair_alike, spliced, spliced_below, spliced_sound}
use Rattle.cand_pairs.proofs.CoverLemmas.{pair_within}
use Rattle.std.proofs.Math.Nat.{mul-le-mul}

-- a node's own cell is on the path to it
own_less : (p : Problem) (cells : List (Option ℕ)) (v : ℕ) → v < length p.tree.nodes → own_of p cells v ≤ delay_between p cells 0 v
own_less p cells v v_n =
    elim (cases_eq v 0) [
      | inl e ↦ rw e (omega (arith, delay_own p cells 0))
      | inr other ↦
          omega (
            arith,
            delay_below (parent_of p.tree.nodes) (tree_falls p.tree.nodes p.tree.a_tree) (resistance p.tree.nodes) (capacitance p.tree.nodes)
                (cell_at p.reps cells) (length p.tree.nodes) 0 v (λ e. omega (arith, p.tree.a_tree.smaller v (omega arith) v_n)) other,
          )
    ]

-- a part of a path is no longer than the whole
delay_less : (p : Problem) (cells : List (Option ℕ)) (v w : ℕ) → v < length p.tree.nodes → is_over (parent_of p.tree.nodes) v w ≡ true
    → delay_between p cells v w ≤ delay_between p cells 0 w
delay_less p cells v w v_n over =
    omega (
      arith,
      delay_through (parent_of p.tree.nodes) (tree_falls p.tree.nodes p.tree.a_tree) (resistance p.tree.nodes) (capacitance p.tree.nodes)
          (cell_at p.reps cells) (length p.tree.nodes) 0 v w (root_over (parent_of p.tree.nodes) (length p.tree.nodes) (tree_of p.tree.nodes p.tree.a_tree) v v_n) over,
      own_less p cells v v_n,
    )

pub pair_small : (p : Problem) (v : ℕ) (odd : Bool) (x : Pair) → IsPairAt p v odd x → IsSmallPair x
pair_small p v odd x (cells, is) =
    let v_n : v < length p.tree.nodes = pair_within p v odd x (cells, is) in
    let placed : IsPlacedTree p.tree.nodes p.reps cells = placed_tree p cells is.placement is.placed in
    let (w, sink, under, e) = is.met in
    let within : IsSmall sink.required = p.within.times w sink under.there in
    let w_n : w < length p.tree.nodes = omega (arith, within_sinks p.sinks w sink under.there, p.sinks_each) in
    record {
      low =
          omega (
            arith,
            ints,
            e,
            within.low,
            delay_less p cells v w v_n under.under,
            delay_smaller p.tree.nodes p.reps cells placed w w_n,
          );
      high = omega (arith, ints, e, within.high);
      load = omega (arith, is.load, input_load_small p.tree.nodes p.reps cells placed v v_n);
    }

pub resistance_small : (p : Problem) (u : ℕ) → u < length p.tree.nodes → resistance p.tree.nodes u ≤ 10 ^ 12
resistance_small p u u_n =
    omega (
      arith,
      summand_le (resistance p.tree.nodes) u (length p.tree.nodes) u_n,
      sum_of_nodes (λ node. node.r) p.tree.nodes,
      p.within.resistances,
    )

pub charge_small : (p : Problem) (u c : ℕ) → u < length p.tree.nodes → c ≤ 10 ^ 11 → resistance p.tree.nodes u * c ≤ 10 ^ 23
charge_small p u c u_n small = omega (arith, mul-le-mul (resistance_small p u u_n) small)

-- and so is what is open of them
pub open_times : (p : Problem) (v : ℕ) (odd : Bool) (own : ℕ) (us : List ℕ) (x : Pair) → ((u : ℕ) → Contains us u → u < length p.tree.nodes)
    → IsOpenWith p (IsPairAt p) odd (fork_of v own us) x → ((pos 0 -ℤ pos (10 ^ 25)) ≤ℤ x.q) × (x.q ≤ℤ pos (10 ^ 23))
open_times p v odd own us x inside (pick, is) =
    elim is.joined.met [
      | inl (u, found, e) ↦
          let small : IsSmallPair (pick u) = pair_small p u odd (pick u) (is.chosen u found) in
          let charge : resistance p.tree.nodes u * (pick u).c ≤ 10 ^ 23 = charge_small p u (pick u).c (inside u found) small.load in
          (omega (arith, ints, e, small.low, charge), omega (arith, ints, e, small.high))
      | inr (sink, here, e) ↦
          let within : IsSmall sink.required = p.within.times v sink here in
          (omega (arith, ints, e, within.low), omega (arith, ints, e, within.high))
    ]

-- SUMS OVER A PART of the children are at most those over all
sum_from_le : (f : ℕ → ℕ) (i n : ℕ) → sum_by f (range_with_len i (n - i)) ≤ sum_by f (node_numbers n)
sum_from_le f zero n =
    let all : n - 0 ≡ n = omega arith in
    omega (arith, ap (λ (k : ℕ). sum_by f (range_with_len 0 k)) all)
sum_from_le f (suc i) n =
    elim (cases_lt i n) [
      | inl low ↦
          let next : suc i ≡ i + 1 = omega arith in
          omega (
            arith,
            sum_from_le f i n,
            ap (sum_by f) (range_step i n low),
            sum_by-cons f i (range_with_len (i + 1) (n - (i + 1))),
            ap (λ (k : ℕ). sum_by f (range_with_len k (n - k))) next,
          )
      | inr high ↦
          let none : n - suc i ≡ 0 = omega arith in
          omega (arith, ap (λ (k : ℕ). sum_by f (range_with_len (suc i) k)) none)
    ]

part_le : (f : ℕ → ℕ) (live child : ℕ → Bool) (i n : ℕ)
    → sum_by f (filter live (filter child (range_with_len i (n - i)))) ≤ sum_by f (filter live (filter child (node_numbers n)))
part_le f live child i n =
    omega (
      arith,
      sum_of_filter f live (filter child (range_with_len i (n - i))),
      sum_of_filter (λ (u : ℕ). cond (live u) (f u) 0) child (range_with_len i (n - i)),
      sum_of_filter f live (filter child (node_numbers n)),
      sum_of_filter (λ (u : ℕ). cond (live u) (f u) 0) child (node_numbers n),
      sum_from_le (λ u. cond (child u) (cond (live u) (f u) 0) 0) i n,
    )

pub empty_cells : (p : Problem) → List (Option ℕ)
empty_cells p = map (λ _. None) (node_numbers (length p.tree.nodes))

empty_at : (p : Problem) (w : ℕ) → slice_index_or (empty_cells p) w None ≡ None
unfolding empty_cells
empty_at p w =
    elim (cases_lt w (length p.tree.nodes)) [
      | inl low ↦ get_or-map-range_with_len (λ _. None) 0 (length p.tree.nodes) w w None low (omega arith)
      | inr high ↦ get_or_past (empty_cells p) w None (omega (arith, length-map-range_with_len {X = Option ℕ} (λ _. None) 0 (length p.tree.nodes)))
    ]

pub empty_sound : (p : Problem) → IsSound p (empty_cells p)
unfolding empty_cells
empty_sound p = record {
  placement = record {
    one_each = length-map-range_with_len {X = Option ℕ} (λ _. None) 0 (length p.tree.nodes);
    named = λ w b e. absurd (let clash : None ≡ Some b = sym (empty_at p w) ∙ e in cc);
  };
  placed = λ w b e. absurd (let clash : None ≡ Some b = sym (empty_at p w) ∙ e in cc);
}

range_in : (i n w : ℕ) → Contains (range_with_len i (n - i)) w → w < n
range_in i n w (k, k_n, e) =
    omega (arith, length-range_with_len i (n - i), get_or-range_with_len i (n - i) k w (omega (arith, length-range_with_len i (n - i))))

pub live_from_in : (p : Problem) (v i u : ℕ) → Contains (live_from p v i) u → Contains (live_children p v) u
live_from_in p v i u found =
    let (among, live) = filter_parts (λ w. is_live p.tree.nodes p.sinks w) (children_from p v i) u found in
    let (later, is) = filter_parts (is_child (parent_of p.tree.nodes) v) (range_with_len i (length p.tree.nodes - i)) u among in
    in_filter (λ w. is_live p.tree.nodes p.sinks w) (children_of p.tree.nodes v) u
    (in_filter (is_child (parent_of p.tree.nodes) v) (node_numbers (length p.tree.nodes)) u
    (in_nodes (length p.tree.nodes) u (range_in i (length p.tree.nodes) u later)) is)
    live

-- what a node and those branches weigh that came in without a sink
pub own_small : (p : Problem) (v i : ℕ) → v < length p.tree.nodes → own_from p v i ≤ 10 ^ 11
own_small p v i v_n =
    omega (
      arith,
      load_small p.tree.nodes p.reps (empty_cells p) (placed_tree p (empty_cells p) (empty_sound p).placement (empty_sound p).placed) v,
      load_live p (empty_cells p) v (empty_sound p).placed v_n,
      part_le (downstream_in p.tree.nodes) (λ u. not (is_live p.tree.nodes p.sinks u)) (is_child (parent_of p.tree.nodes) v) i (length p.tree.nodes),
    )

-- THE LOAD of a part of a node is that of some placement, at most
pub open_small : (p : Problem) (v : ℕ) (odd : Bool) (i : ℕ) (x : Pair) → v < length p.tree.nodes
    → IsOpenWith p (IsPairAt p) odd (fork_from p v i) x → x.c ≤ 10 ^ 11
open_small p v odd i x v_n (pick, is) =
    omega (
      arith,
      is.joined.load,
      load_small p.tree.nodes p.reps cells (placed_tree p cells sound.placement sound.placed) v,
      load_live p cells v sound.placed v_n,
      part_le (input_load_of p cells) (λ u. is_live p.tree.nodes p.sinks u) (is_child (parent_of p.tree.nodes) v) i (length p.tree.nodes),
      part_le (downstream_in p.tree.nodes) (λ u. not (is_live p.tree.nodes p.sinks u)) (is_child (parent_of p.tree.nodes) v) i (length p.tree.nodes),
      sum_alike_in (λ (u : ℕ). (pick u).c) (input_load_of p cells) (live_from p v i) (λ u found.
          (pair_alike p u odd (cells_of u) cells (pick u) (spliced_below p v None cells_of u (live_from_in p v i u found) (past u)) sound.placement sound.placed ((each u).1.1 found)).load),
    )
  where
    each : (u : ℕ) → (cells : List (Option ℕ)) × (IsSound p cells × (Contains (live_from p v i) u → IsPairOf p u odd cells (pick u)))
    each u =
        elim (in_list (live_from p v i) u) [
          | inl found ↦
              let (cells, at) = is.chosen u found in
              (cells, (record { placement = at.placement; placed = at.placed }, λ _. at))
          | inr out ↦ (empty_cells p, (empty_sound p, λ found. absurd (out found)))
        ]

    cells_of : ℕ → List (Option ℕ)
    cells_of u = (each u).0

    cells : List (Option ℕ)
    cells = spliced p v None cells_of

    sound : IsSound p cells
    sound = spliced_sound p v None cells_of (λ b e. absurd (cc)) (λ u _. (each u).1.0)

    past : (u : ℕ) → (w : ℕ) → length p.tree.nodes ≤ w → slice_index_or (cells_of u) w None ≡ None
    past u w high = get_or_past (cells_of u) w None (omega (arith, (each u).1.0.placement.one_each))
