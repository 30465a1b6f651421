-- All capacitors of a net are at nodes of its tree.
use Rattle.std.proofs.Common.{◌≡◌, ℕ, ◌+◌, ◌≤◌, ◌==◌, ◌^◌, cond, suc, List, [], ◌∷◌, length, slice_index, sym, ap, ◌∙◌, arith}
use Rattle.std.specs.List.{All, sum_by}
use Rattle.std.proofs.lemmas.Bool.{eq-eqb}
use Rattle.std.proofs.lemmas.List.Sums.{sum_by-cons}
use Rattle.elmore.specs.Path.{nodes}
use Rattle.elmore.specs.Trees.{capacitance, total_capacitance}
use Rattle.elmore.specs.declared.tree.Node.{Node}
use Rattle.elmore.proofs.SumLemmas.{sum_of_alike, sum_of_both, sum_of_items, summand_le}
use Rattle.rc_tree.specs.Answers.{ListsAll}
use Rattle.rc_tree.specs.Nets.{capacitance_at}
use Rattle.spef_net.specs.Nets.{IsCapOf}
use Rattle.spef_net.specs.declared.net.ParNet.{ParNet}
use Rattle.spef_wire.specs.Refusals.{IsNetTree, IsWithinNetLimits}
use Rattle.spef_write.specs.Sections.{total}

-- each is at some node of the order
all_reached : (n : ℕ) (order : List ℕ) → ListsAll n order → (caps : List (ℕ × ℕ)) → All (IsCapOf n) caps
    → total caps ≤ sum_by (λ i. capacitance_at caps (slice_index order i)) (nodes n)
all_reached n order lists [] within = omega arith
all_reached n order lists (cap ∷ caps) within =
    let (i, low, at) = lists.each cap.0 (within 0 cap (omega arith)).0 in
    let here : ℕ → ℕ = λ k. cond (cap.0 == slice_index order k) cap.1 0 in
    let rest : ℕ → ℕ = λ k. capacitance_at caps (slice_index order k) in
    let is : here i ≡ cap.1 = ap (λ b. cond b cap.1 0) (eq-eqb cap.0 (slice_index order i) (sym at)) in
    let both : sum_by (λ k. capacitance_at (cap ∷ caps) (slice_index order k)) (nodes n) ≡ sum_by here (nodes n) + sum_by rest (nodes n) =
    sum_of_alike (λ k. capacitance_at (cap ∷ caps) (slice_index order k)) (λ k. here k + rest k) n
    (λ k _. sum_by-cons (λ (c : ℕ × ℕ). cond (c.0 == slice_index order k) c.1 0) cap caps)
    ∙ sum_of_both here rest (nodes n) in
    omega (
      arith,
      both,
      is,
      summand_le here i n low,
      sum_by-cons (λ (c : ℕ × ℕ). c.1) cap caps,
      all_reached n order lists caps (λ k d h. within (suc k) d (omega (arith, h))),
    )

-- so all together are within the limit of the tree
pub small_charge : (net : ParNet) (tree : List Node) (order : List ℕ) → IsNetTree net tree order → IsWithinNetLimits net tree
    → total net.caps ≤ 10 ^ 15
small_charge net tree order a within =
    let n = length net.nodes in
    let whole : sum_by (capacitance tree) (nodes (length tree)) ≡ total_capacitance tree =
    sum_of_items (λ (node : Node). node.c) (λ v. record { parent = v; r = 0; c = 0 }) tree in
    omega (
      arith,
      all_reached n order a.a_tree.lists net.caps net.sound.caps_at,
      sum_of_alike (λ i. capacitance_at net.caps (slice_index order i)) (capacitance tree) n (λ i low. sym (a.a_tree.capacitances i low)),
      ap (λ k. sum_by (capacitance tree) (nodes k)) a.a_tree.count,
      whole,
      within.sums.capacitances,
    )
