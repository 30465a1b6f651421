-- The numbers of a stage's nodes in its net.
use Rattle.std.proofs.Common.{◌≡◌, ℕ, zero, suc, ◌<◌, Bool, true, false, not, cond, List, [], ◌∷◌, length, slice_index, sym, ap, ◌∙◌, subst, arith, inl, inr}
use Rattle.std.specs.List.{filter, Contains}
use Rattle.std.proofs.lemmas.Bool.{cases_Bool}
use Rattle.std.proofs.lemmas.List.{get_or_default}
use Rattle.std.proofs.lemmas.List.Elements.{Contains-append_left, Contains-append_right}
use Rattle.elmore.specs.Trees.{parent_of}
use Rattle.vg_split.specs.Stages.{heads, members}
use Rattle.vg_split.specs.Splits.{Split, forest, head, ends_in, inner_in, is_end, nodes_in, place_in}
use Rattle.vg_split.specs.Steps.{AreNumbered}
use Rattle.vg_split.proofs.MemberLemmas.{first_is, members_in, members_low, members_rise, parent_in}
use Rattle.vg_split.proofs.NumberedLemmas.{found_at}

-- what stands in a list stands in a longer one
pub later : (u w : ℕ) (ws : List ℕ) → Contains ws w → Contains (u ∷ ws) w
later u w ws (i, low, is) = (suc i, omega (arith, low), is)

-- what passes stands among what passes
kept_contains : (p : ℕ → Bool) (ws : List ℕ) (w : ℕ) → p w ≡ true → Contains ws w → Contains (filter p ws) w
kept_contains p [] w pass (i, low, is) = absurd (omega (arith, low))
kept_contains p (u ∷ ws) w pass (zero, low, is) = subst (λ b. Contains (cond b (u ∷ filter p ws) (filter p ws)) w) (sym (ap p is ∙ pass)) (0, omega arith, is)
kept_contains p (u ∷ ws) w pass (suc i, low, is) = at (p u) (kept_contains p ws w pass (i, omega (arith, low), is))
  where
    at : (b : Bool) → Contains (filter p ws) w → Contains (cond b (u ∷ filter p ws) (filter p ws)) w
    at true there = later u w (filter p ws) there
    at false there = there

-- each node of the stage is one of its net
pub listed : (x : Split) (k w : ℕ) → Contains (members (forest x) (head x k)) w → Contains (nodes_in x k) w
listed x k w there =
    let ws = members (forest x) (head x k) in
    elim (cases_Bool (is_end x w)) as (λ _. Contains (nodes_in x k) w) [
      | inl end ↦ Contains-append_left (ends_in x k) (inner_in x k) w (kept_contains (is_end x) ws w end there)
      | inr none ↦ Contains-append_right (ends_in x k) (inner_in x k) w (kept_contains (λ v. not (is_end x v)) ws w (ap not none) there)
    ]

pub placed : (x : Split) (k w : ℕ) (places : List ℕ) → AreNumbered places (nodes_in x k) → Contains (members (forest x) (head x k)) w
    → slice_index places w ≡ place_in x k w
placed x k w places are there = sym (found_at places (nodes_in x k) w are (listed x k w there))

-- its number is that of a node of the net, which is it
pub place_low : (x : Split) (k w : ℕ) (places : List ℕ) → AreNumbered places (nodes_in x k) → Contains (members (forest x) (head x k)) w
    → place_in x k w < length (nodes_in x k)
place_low x k w places are there =
    let (i, low, is) = listed x k w there in
    let at : slice_index (nodes_in x k) i ≡ w = get_or_default (nodes_in x k) i 0 w low ∙ is in
    omega (arith, low, placed x k w places are there, ap (slice_index places) at, are.at i low)

pub stands : (x : Split) (k w : ℕ) (places : List ℕ) → AreNumbered places (nodes_in x k) → Contains (members (forest x) (head x k)) w
    → slice_index (nodes_in x k) (place_in x k w) ≡ w
stands x k w places are there =
    let (i, low, is) = listed x k w there in
    let at : slice_index (nodes_in x k) i ≡ w = get_or_default (nodes_in x k) i 0 w low ∙ is in
    let number : place_in x k w ≡ i = sym (placed x k w places are there) ∙ ap (slice_index places) (sym at) ∙ are.at i low in
    ap (slice_index (nodes_in x k)) number ∙ at

-- the node of a number in the stage
pub member_at : (x : Split) (k i w : ℕ) → i < length (members (forest x) (head x k)) → slice_index (members (forest x) (head x k)) i ≡ w
    → Contains (members (forest x) (head x k)) w
member_at x k i w low is = (i, low, get_or_default (members (forest x) (head x k)) i w 0 low ∙ is)

-- the parent of each but the first
pub parent_member : (x : Split) (k i w : ℕ) → k < length (heads (forest x)) → 0 < i → i < length (members (forest x) (head x k))
    → slice_index (members (forest x) (head x k)) i ≡ w → Contains (members (forest x) (head x k)) (parent_of x.problem.tree.nodes w)
parent_member x k i w stage some low is =
    let above = members_rise x k 0 i 0 some low in
    let first = first_is x k stage in
    parent_in x k w (subst (λ u. u < length x.problem.tree.nodes) is (members_low x k i 0 low))
    (ap (λ u. Rattle.cut_laws.specs.Pieces.in_piece (forest x) (head x k) u) (sym is) ∙ members_in x k i 0 low)
    (λ e. omega (arith, above, first, is, e)) (omega (arith, above, is))
