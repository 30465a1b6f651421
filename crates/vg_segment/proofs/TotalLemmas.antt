-- Capacitors in the order of the nodes have the same capacitance together.
use Rattle.std.proofs.Common.{◌≡◌, ℕ, suc, ◌+◌, ◌<◌, ◌≤◌, ◌==◌, ◌^◌, cond, eqb, List, [], ◌∷◌, length, map, sym, ap, ◌∙◌, arith, inl, inr}
use Rattle.std.specs.List.{All, sum_by}
use Rattle.std.proofs.lemmas.Bool.{cases_eq, eq-eqb, ne_eqb}
use Rattle.std.proofs.lemmas.List.{length-append}
use Rattle.std.proofs.lemmas.List.Sums.{sum_by-cons}
use Rattle.elmore.specs.Path.{nodes}
use Rattle.elmore.proofs.SumLemmas.{sum_at, sum_of_alike, sum_of_both, sum_of_filter, sum_of_none}
use Rattle.rc_tree.specs.Nets.{capacitance_at}
use Rattle.spef_net.specs.Nets.{IsCapOf}
use Rattle.spef_net.specs.declared.net.ParNet.{ParNet}
use Rattle.spef_write.specs.Sections.{total, total_at}
use Rattle.vg_segment.specs.Segments.{AreByNode, IsSegmented, new_node}

turned : (i k : ℕ) → (i == k) ≡ eqb k i
turned i k = elim (cases_eq i k) [
  | inl e ↦ eq-eqb i k e ∙ sym (eq-eqb k i (sym e))
  | inr other ↦ ne_eqb i k other ∙ sym (ne_eqb k i (λ e. other (sym e)))
]

-- a capacitor counts at its node alone
once : (cap : ℕ × ℕ) (n : ℕ) → cap.0 < n → sum_by (λ k. cond (cap.0 == k) cap.1 0) (nodes n) ≡ cap.1
once cap n low =
    sum_of_alike (λ k. cond (cap.0 == k) cap.1 0) (λ k. cond (eqb k cap.0) cap.1 0) n (λ k _. ap (λ b. cond b cap.1 0) (turned cap.0 k))
    ∙ sum_at (λ _. cap.1) cap.0 0 n (omega arith) (omega (arith, low))

-- all capacitors together are those at the nodes
pub total_by_node : (n : ℕ) (caps : List (ℕ × ℕ)) → All (IsCapOf n) caps → total caps ≡ sum_by (total_at caps) (nodes n)
total_by_node n caps within =
    go caps within ∙ sum_of_alike (capacitance_at caps) (total_at caps) n (λ k _. sym (sum_of_filter (λ (cap : ℕ × ℕ). cap.1) (λ cap. cap.0 == k) caps))
  where
    go : (caps : List (ℕ × ℕ)) → All (IsCapOf n) caps → total caps ≡ sum_by (capacitance_at caps) (nodes n)
    go [] within = sym (sum_of_none (nodes n))
    go (cap ∷ caps) within =
        let both : sum_by (capacitance_at (cap ∷ caps)) (nodes n) ≡ sum_by (λ k. cond (cap.0 == k) cap.1 0) (nodes n) + sum_by (capacitance_at caps) (nodes n) =
        sum_of_alike (capacitance_at (cap ∷ caps)) (λ k. cond (cap.0 == k) cap.1 0 + capacitance_at caps k) n
        (λ k _. sum_by-cons (λ (c : ℕ × ℕ). cond (c.0 == k) c.1 0) cap caps)
        ∙ sum_of_both (λ k. cond (cap.0 == k) cap.1 0) (capacitance_at caps) (nodes n) in
        omega (
          arith,
          both,
          once cap n (within 0 cap (omega arith)).0,
          sum_by-cons (λ (c : ℕ × ℕ). c.1) cap caps,
          go caps (λ k d h. within (suc k) d (omega (arith, h))),
        )

pub same_total : (n : ℕ) (caps sorted : List (ℕ × ℕ)) → All (IsCapOf n) caps → All (IsCapOf n) sorted → AreByNode caps sorted → total sorted ≡ total caps
same_total n caps sorted within sorted_within by =
    total_by_node n sorted sorted_within
    ∙ sum_of_alike (total_at sorted) (total_at caps) n (λ k _. ap total (by.same k))
    ∙ sym (total_by_node n caps within)

-- the cut net has as much as the net
pub small_total : (net cut : ParNet) (parts : ℕ) → IsSegmented net parts cut → total net.caps ≤ 10 ^ 15 → total cut.caps ≤ 10 ^ 15
small_total net cut parts is small =
    let more : length net.nodes ≤ length cut.nodes =
    omega (arith, ap (λ ns. length ns) is.nodes, length-append net.nodes (map (new_node net.name) is.leaves)) in
    let wider : All (IsCapOf (length cut.nodes)) net.caps = λ k d h. let c = net.sound.caps_at k d h in (omega (arith, c, more), c.1) in
    omega (arith, small, same_total (length cut.nodes) net.caps cut.caps wider cut.sound.caps_at is.caps)
