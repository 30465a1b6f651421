-- The nodes of a stage, in tree order and as its net has them.
use Rattle.std.proofs.Common.{◌≡◌, ◌≢◌, ℕ, ◌<◌, ◌≤◌, ◌==◌, true, not, length, slice_index, refl, ap, ◌∙◌, arith, inl, inr}
use Rattle.std.specs.List.{All, AllPairs, Contains}
use Rattle.std.proofs.lemmas.Bool.{cases_Bool, eq-eqb}
use Rattle.std.proofs.lemmas.Bool.Decides.{nat_tests}
use Rattle.std.proofs.lemmas.List.{get_or_default, length-append}
use Rattle.std.proofs.lemmas.List.Elements.{All-append, All-filter, Contains-append_left, Contains-append_right, filter_passes}
use Rattle.std.proofs.lemmas.List.Filters.{length-filter_both}
use Rattle.std.proofs.lemmas.List.FromFn.{get_or-range_with_len, length-range_with_len}
use Rattle.std.proofs.lemmas.List.Kept.{AllPairs-filter}
use Rattle.elmore.specs.Path.{Falls, nodes}
use Rattle.elmore.proofs.PathLemmas.{over_le}
use Rattle.elmore.proofs.StageLemmas.{stage_self}
use Rattle.elmore.proofs.TreeLemmas.{tree_falls}
use Rattle.cut_laws.specs.Pieces.{in_piece}
use Rattle.cut_laws.proofs.PieceLemmas.{over_piece, piece_above, stage_in_piece}
use Rattle.vg_split.specs.Splits.{Split, ends_in, forest, head, inner_in, is_end, nodes_in, place_in}
use Rattle.vg_split.specs.Stages.{heads, members}
use Rattle.vg_split.proofs.StageLists.{head_below, nodes_below, nodes_rise}
use Rattle.split_laws.proofs.ListLemmas.{IsFirstPlace, contains_filter, first_place, least_first}

pub falls : (x : Split) → Falls (forest x).parent
falls x = tree_falls x.problem.tree.nodes x.problem.tree.a_tree

-- a node of a stage, or one whose cell ends it
pub record IsMember (x : Split) (k w : ℕ) : Type 0 where
  pub low : w < length x.problem.tree.nodes
  pub inside : in_piece (forest x) (head x k) w ≡ true

pub all_members : (x : Split) (k : ℕ) → All (IsMember x k) (members (forest x) (head x k))
all_members x k i d low =
    let p = in_piece (forest x) (head x k) in
    record {
      low = All-filter p (λ w. w < (forest x).n) (nodes (forest x).n) (nodes_below (forest x).n) i d low;
      inside = filter_passes p (nodes (forest x).n) i d low;
    }

pub member : (x : Split) (k w : ℕ) → IsMember x k w → Contains (members (forest x) (head x k)) w
member x k w is =
    let n = (forest x).n in
    let here : w < length (nodes n) = omega (arith, is.low, length-range_with_len 0 n) in
    let at : slice_index (nodes n) w ≡ w = get_or-range_with_len 0 n w 0 is.low ∙ omega arith in
    contains_filter (in_piece (forest x) (head x k)) (nodes n) w (w, here, get_or_default (nodes n) w w 0 here ∙ at) is.inside

pub members_rise : (x : Split) (k : ℕ) → AllPairs (λ a b. a < b) (members (forest x) (head x k))
members_rise x k = AllPairs-filter (λ a b. a < b) (in_piece (forest x) (head x k)) (nodes (forest x).n) (nodes_rise (forest x).n)

-- ---- where the stage begins

pub head_member : (x : Split) (k : ℕ) → k < length (heads (forest x)) → IsMember x k (head x k)
head_member x k low = record {
  low = head_below (forest x) (forest x).n k low;
  inside = stage_in_piece (forest x) (head x k) (head x k) (stage_self (forest x).parent (forest x).cell (falls x) (head x k));
}

pub head_least : (x : Split) (k w : ℕ) → IsMember x k w → head x k ≤ w
head_least x k w is = over_le (forest x).parent (falls x) (head x k) w (over_piece (forest x) (head x k) w is.inside)

pub first_member : (x : Split) (k : ℕ) → k < length (heads (forest x)) → slice_index (members (forest x) (head x k)) 0 ≡ head x k
first_member x k low =
    let ws = members (forest x) (head x k) in
    least_first ws (head x k) (members_rise x k) (member x k (head x k) (head_member x k low))
    (λ i d i_low. head_least x k _ (all_members x k i d i_low))

-- a node behind it has its parent in the stage
pub parent_member : (x : Split) (k w : ℕ) → IsMember x k w → w ≢ head x k → IsMember x k ((forest x).parent w)
parent_member x k w is other = record {
  low = omega (arith, is.low, falls x w);
  inside =
      stage_in_piece (forest x) (head x k) ((forest x).parent w) (piece_above (forest x) (falls x) (head x k) w is.inside other);
}

-- ---- as the stage's net has them

pub all_nodes : (x : Split) (k : ℕ) → All (IsMember x k) (nodes_in x k)
all_nodes x k =
    let ws = members (forest x) (head x k) in
    All-append (IsMember x k) (ends_in x k) (inner_in x k) (All-filter (is_end x) (IsMember x k) ws (all_members x k))
    (All-filter (λ w. not (is_end x w)) (IsMember x k) ws (all_members x k))

pub listed : (x : Split) (k w : ℕ) → IsMember x k w → Contains (nodes_in x k) w
listed x k w is =
    let ws = members (forest x) (head x k) in
    let there = member x k w is in
    elim (cases_Bool (is_end x w)) as (λ _. Contains (nodes_in x k) w) [
      | inl end ↦ Contains-append_left (ends_in x k) (inner_in x k) w (contains_filter (is_end x) ws w there end)
      | inr none ↦ Contains-append_right (ends_in x k) (inner_in x k) w (contains_filter (λ v. not (is_end x v)) ws w there (ap not none))
    ]

pub as_many_nodes : (x : Split) (k : ℕ) → length (nodes_in x k) ≡ length (members (forest x) (head x k))
as_many_nodes x k =
    length-append (ends_in x k) (inner_in x k) ∙ length-filter_both (is_end x) (λ w. not (is_end x w)) (λ w. refl) (members (forest x) (head x k))

-- the number of a node is that of a node of the net, which is it
pub place_is : (x : Split) (k w : ℕ) → IsMember x k w → slice_index (nodes_in x k) (place_in x k w) ≡ w
place_is x k w is =
    let (i, low, at) = listed x k w is in
    let here : slice_index (nodes_in x k) i ≡ w = get_or_default (nodes_in x k) i 0 w low ∙ at in
    let found : IsFirstPlace (λ u. u == w) (nodes_in x k) 0 = first_place (λ u. u == w) (nodes_in x k) i 0 low (eq-eqb (slice_index (nodes_in x k) i) w here) in
    same (slice_index (nodes_in x k) (place_in x k w)) found.passes
  where
    same : (u : ℕ) → (u == w) ≡ true → u ≡ w
    same u e = grind (arith, nat_tests)

-- its connections
pub ends_rise : (x : Split) (k : ℕ) → AllPairs (λ a b. a < b) (ends_in x k)
ends_rise x k = AllPairs-filter (λ a b. a < b) (is_end x) (members (forest x) (head x k)) (members_rise x k)

-- the connections come first, and of these the one where the stage begins
pub ends_first : (x : Split) (k : ℕ) → k < length (heads (forest x)) → is_end x (head x k) ≡ true → slice_index (ends_in x k) 0 ≡ head x k
ends_first x k low end =
    let ws = members (forest x) (head x k) in
    least_first (ends_in x k) (head x k) (ends_rise x k)
    (contains_filter (is_end x) ws (head x k) (member x k (head x k) (head_member x k low)) end)
    (All-filter (is_end x) (λ w. head x k ≤ w) ws (λ i d i_low. head_least x k _ (all_members x k i d i_low)))

pub some_end : (x : Split) (k : ℕ) → k < length (heads (forest x)) → is_end x (head x k) ≡ true → 0 < length (ends_in x k)
some_end x k low end =
    let (i, i_low, at) = contains_filter (is_end x) (members (forest x) (head x k)) (head x k) (member x k (head x k) (head_member x k low)) end in
    omega (arith, i_low)
