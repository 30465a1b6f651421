-- The capacitors and resistors of a stage.
use Rattle.std.proofs.Common.{◌≡◌, ℕ, ◌+◌, ◌<◌, ◌≤◌, ◌==◌, ◌&&◌, not, Bool, true, false, cond, List, drop, length, map, slice_index, sym, subst, arith}
use Rattle.std.specs.List.{All, Contains}
use Rattle.std.proofs.lemmas.List.{get_or-drop, length-drop}
use Rattle.std.proofs.lemmas.List.Elements.{All-from_get_or, All-map, All-weaker, All-contains_itself}
use Rattle.std.proofs.lemmas.List.Sums.{get_or-le-sum_by}
use Rattle.elmore.specs.Trees.{parent_of, resistance, total_resistance}
use Rattle.elmore.specs.declared.tree.Node.{Node}
use Rattle.spef_net.specs.Nets.{IsCapOf, IsResOf}
use Rattle.vg_split.specs.Stages.{heads, members}
use Rattle.spef_write.specs.Sections.{total_at}
use Rattle.spef_write.proofs.ChargeLemmas.{total_at-le}
use Rattle.vg_split.specs.Conditions.{IsSplit}
use Rattle.vg_split.specs.Splits.{Split, cap_in, forest, head, is_celled, nodes_in, res_in}
use Rattle.vg_split.specs.Steps.{AreNumbered, cap_row}
use Rattle.vg_split.proofs.MemberLemmas.{members_low}
use Rattle.vg_split.proofs.PlaceLemmas.{member_at, parent_member, place_low}

cap_small : (x : Split) (k w : ℕ) → cap_in x k w ≤ total_at x.par.caps (slice_index x.order w)
cap_small x k w = either (is_celled x w && not (w == head x k))
  where
    either : (b : Bool) → cond b 0 (total_at x.par.caps (slice_index x.order w)) ≤ total_at x.par.caps (slice_index x.order w)
    either true = omega arith
    either false = omega arith

pub caps_at : (x : Split) → IsSplit x → (k : ℕ) (places : List ℕ) → AreNumbered places (nodes_in x k)
    → All (IsCapOf (length (nodes_in x k))) (map (cap_row x k) (members (forest x) (head x k)))
caps_at x is k places are =
    let ws = members (forest x) (head x k) in
    All-map (IsCapOf (length (nodes_in x k))) (cap_row x k) ws
    (All-weaker (Contains ws) (λ w. IsCapOf (length (nodes_in x k)) (cap_row x k w))
    (λ w there. (place_low x k w places are there, omega (arith, cap_small x k w, total_at-le x.par.caps (slice_index x.order w), is.charge))) ws
    (All-contains_itself ws))

small : (nodes : List Node) (w : ℕ) → w < length nodes → resistance nodes w ≤ total_resistance nodes
small nodes w low = get_or-le-sum_by (λ (n : Node). n.r) nodes w (record { parent = w; r = 0; c = 0 }) low

pub ress_at : (x : Split) (k : ℕ) → k < length (heads (forest x)) → (places : List ℕ) → AreNumbered places (nodes_in x k)
    → All (IsResOf (length (nodes_in x k))) (map (res_in x k) (drop 1 (members (forest x) (head x k))))
ress_at x k low places are =
    let ws = members (forest x) (head x k) in
    All-map (IsResOf (length (nodes_in x k))) (res_in x k) (drop 1 ws)
    (All-from_get_or (λ w. IsResOf (length (nodes_in x k)) (res_in x k w)) (drop 1 ws) 0 (λ i i_in.
    let i_low : 1 + i < length ws = omega (arith, i_in, length-drop 1 ws) in
    let w = slice_index (drop 1 ws) i in
    let at : slice_index ws (1 + i) ≡ w = sym (get_or-drop 1 ws i 0) in
    let w_low : w < length x.problem.tree.nodes = subst (λ u. u < length x.problem.tree.nodes) at (members_low x k (1 + i) 0 i_low) in (
      place_low x k (parent_of x.problem.tree.nodes w) places are (parent_member x k (1 + i) w low (omega arith) i_low at),
      place_low x k w places are (member_at x k (1 + i) w i_low at),
      omega (arith, small x.problem.tree.nodes w w_low, x.problem.within.resistances),
    )))
