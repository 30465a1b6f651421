-- The nodes of a stage, in tree order.
use Rattle.std.proofs.Common.{◌≡◌, ◌≢◌, ℕ, zero, suc, ◌+◌, ◌-◌, ◌<◌, ◌≤◌, ◌||◌, true, not, cond, List, [], ◌∷◌, ◌++◌, length, slice_index, refl, sym, ap, ◌∙◌, arith}
use Rattle.std.specs.List.{filter, All, AllPairs, Contains}
use Rattle.std.proofs.lemmas.List.{get_or_default}
use Rattle.std.proofs.lemmas.List.Elements.{All-filter, filter_passes}
use Rattle.std.proofs.lemmas.List.Filters.{length-filter_both}
use Rattle.std.proofs.lemmas.List.FromFn.{length-range_with_len}
use Rattle.std.proofs.lemmas.List.Kept.{AllPairs-filter}
use Rattle.elmore.specs.Path.{Falls, nodes}
use Rattle.elmore.specs.Stage.{in_stage, ends_stage}
use Rattle.elmore.specs.Trees.{parent_of}
use Rattle.cut_laws.specs.Pieces.{Forest, in_piece}
use Rattle.vg_split.specs.Stages.{heads, members, members_to}
use Rattle.vg_split.proofs.StageLists.{filter_more, first_member, nodes_below, nodes_rise, piece_below}
use Rattle.vg_split.specs.Splits.{Split, forest, head}
use Rattle.vg_split.proofs.SplitLemmas.{falls, head_low}
use Rattle.vg_split.proofs.StageNumberLemmas.{stands_at}

-- the first node of a stage is the one where it begins
begins_to : (f : Forest) → Falls f.parent → (v k : ℕ) → (rest : List ℕ) × (members_to f (v + 1 + k) v ≡ v ∷ rest)
begins_to f falls v zero = let e : v + 1 + 0 ≡ v + 1 = omega arith in ([], ap (λ n. members_to f n v) e ∙ first_member f falls v)
begins_to f falls v (suc k) =
    let (rest, is) = begins_to f falls v k in
    let e : v + 1 + suc k ≡ (v + 1 + k) + 1 = omega arith in
    let more = cond (in_piece f v (v + 1 + k)) ((v + 1 + k) ∷ []) [] in
    (rest ++ more, ap (λ n. members_to f n v) e ∙ filter_more (in_piece f v) (v + 1 + k) ∙ ap (λ (l : List ℕ). l ++ more) is)

record BeginsAt (ws : List ℕ) (v : ℕ) : Type 0 where
  pub rest : List ℕ
  pub is : ws ≡ v ∷ rest

begins : (x : Split) (k : ℕ) → k < length (heads (forest x)) → BeginsAt (members (forest x) (head x k)) (head x k)
begins x k low =
    let v = head x k in
    let n = (forest x).n in
    let (rest, is) = begins_to (forest x) (falls x) v (n - (v + 1)) in
    let e : n ≡ v + 1 + (n - (v + 1)) = omega (arith, head_low x k low) in
    record { rest = rest; is = ap (λ m. members_to (forest x) m v) e ∙ is }

pub some_member : (x : Split) (k : ℕ) → k < length (heads (forest x)) → 0 < length (members (forest x) (head x k))
some_member x k low = let b = begins x k low in omega (arith, ap (λ (ws : List ℕ). length ws) b.is)

pub first_is : (x : Split) (k : ℕ) → k < length (heads (forest x)) → slice_index (members (forest x) (head x k)) 0 ≡ head x k
first_is x k low = ap (λ (ws : List ℕ). slice_index ws 0) (begins x k low).is

-- a stage has no more nodes than the tree
pub few_members : (x : Split) (k : ℕ) → length (members (forest x) (head x k)) ≤ length x.problem.tree.nodes
few_members x k =
    let p = in_piece (forest x) (head x k) in
    omega (arith, length-filter_both p (λ w. not (p w)) (λ w. refl) (nodes (forest x).n), length-range_with_len 0 (forest x).n)

-- its nodes are those of the tree, each once
pub members_low : (x : Split) (k : ℕ) → All (λ w. w < length x.problem.tree.nodes) (members (forest x) (head x k))
members_low x k = All-filter (in_piece (forest x) (head x k)) (λ w. w < (forest x).n) (nodes (forest x).n) (nodes_below (forest x).n)

pub members_in : (x : Split) (k : ℕ) → All (λ w. in_piece (forest x) (head x k) w ≡ true) (members (forest x) (head x k))
members_in x k = filter_passes (in_piece (forest x) (head x k)) (nodes (forest x).n)

pub members_rise : (x : Split) (k : ℕ) → AllPairs (λ a b. a < b) (members (forest x) (head x k))
members_rise x k = AllPairs-filter (λ a b. a < b) (in_piece (forest x) (head x k)) (nodes (forest x).n) (nodes_rise (forest x).n)

-- each node of a stage but the first has its parent in the stage
pub parent_in : (x : Split) (k w : ℕ) → w < length x.problem.tree.nodes → in_piece (forest x) (head x k) w ≡ true → w ≢ head x k → 0 < w
    → Contains (members (forest x) (head x k)) (parent_of x.problem.tree.nodes w)
parent_in x k w low is_in other some =
    let f = forest x in
    let above : parent_of x.problem.tree.nodes w < w = x.problem.tree.a_tree.smaller w some low in
    let p_in : in_stage f.parent f.cell (head x k) (f.parent w) ≡ true
    = sym (piece_below f (falls x) (head x k) w (λ e. omega (arith, e, above)) other) ∙ is_in in
    let at = stands_at (in_piece f (head x k)) f.n (f.parent w) (omega (arith, above, low))
    (ap (λ b. b || ends_stage f.parent f.cell (head x k) (f.parent w)) p_in) in (
      length (filter (in_piece f (head x k)) (nodes (f.parent w))),
      at.within,
      get_or_default (members f (head x k)) (length (filter (in_piece f (head x k)) (nodes (f.parent w)))) (f.parent w) 0 at.within ∙ at.is,
    )
