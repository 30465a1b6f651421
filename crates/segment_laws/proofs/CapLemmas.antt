-- The capacitors of a net, node by node.
use Rattle.std.proofs.Common.{◌≡◌, ℕ, ◌+◌, ◌<◌, ◌==◌, true, List, [], ◌∷◌, filter, slice_index, refl, sym, ap, ◌∙◌, cond, eqb, arith, inl, inr}
use Rattle.std.specs.List.{All, sum_by}
use Rattle.std.proofs.lemmas.Bool.{cases_eq, eq-eqb, ne_eqb}
use Rattle.std.proofs.lemmas.List.Elements.{All-head, All-tail}
use Rattle.std.proofs.lemmas.List.Sums.{sum_by-cons}
use Rattle.cut_laws.proofs.EmbeddingLemmas.{sum_map}
use Rattle.divided_net_laws.proofs.ChainLemmas.{one_place}
use Rattle.elmore.specs.Path.{nodes as numbers}
use Rattle.elmore.specs.Trees.{capacitance, total_capacitance}
use Rattle.elmore.specs.declared.tree.Node.{Node}
use Rattle.elmore.proofs.SumLemmas.{sum_at, sum_of_alike, sum_of_both, sum_of_filter, sum_of_items, sum_of_none}
use Rattle.rc_tree.specs.Answers.{IsTreeOf}
use Rattle.rc_tree.specs.Nets.{capacitance_at}
use Rattle.spef_write.specs.Sections.{total}
use Rattle.vg_segment.specs.Segments.{AreByNode}

-- what capacitors have, at a node
unfoldable pub at_node : (ℕ × ℕ → ℕ) → List (ℕ × ℕ) → ℕ → ℕ
at_node f caps k = sum_by f (filter (λ cap. cap.0 == k) caps)

one_more : (f : ℕ × ℕ → ℕ) (cap : ℕ × ℕ) (caps : List (ℕ × ℕ)) (k : ℕ)
    → at_node f (cap ∷ caps) k ≡ cond (eqb k cap.0) (f cap) 0 + at_node f caps k
unfolding at_node
one_more f cap caps k = elim (cases_eq cap.0 k) [
  | inl e ↦ rw (eq-eqb cap.0 k e, eq-eqb k cap.0 (sym e)) (sum_by-cons f cap (filter (λ c. c.0 == k) caps))
  | inr e ↦ rw (ne_eqb cap.0 k e, ne_eqb k cap.0 (λ z. e (sym z))) (omega arith)
]

-- a sum over capacitors is one over the nodes
pub sum_by_node : (f : ℕ × ℕ → ℕ) (n : ℕ) (caps : List (ℕ × ℕ)) → All (λ cap. cap.0 < n) caps
    → sum_by f caps ≡ sum_by (at_node f caps) (numbers n)
unfolding at_node
sum_by_node f n [] all = sym (sum_of_none (numbers n))
sum_by_node f n (cap ∷ caps) all =
    omega (
      arith,
      sum_by-cons f cap caps,
      sum_of_alike (at_node f (cap ∷ caps)) (λ k. cond (eqb k cap.0) (f cap) 0 + at_node f caps k) n
          (λ k k_n. one_more f cap caps k),
      sum_of_both (λ k. cond (eqb k cap.0) (f cap) 0) (at_node f caps) (numbers n),
      sum_at (λ _. f cap) cap.0 0 n (omega arith) (omega (arith, All-head (λ (c : ℕ × ℕ). c.0 < n) cap caps all)),
      sum_by_node f n caps (All-tail (λ (c : ℕ × ℕ). c.0 < n) cap caps all),
    )

-- so it is the same of the same capacitors in another order
pub same_by_node : (f : ℕ × ℕ → ℕ) (n : ℕ) (caps sorted : List (ℕ × ℕ)) → All (λ cap. cap.0 < n) caps
    → All (λ cap. cap.0 < n) sorted → AreByNode caps sorted
    → sum_by f sorted ≡ sum_by f caps
unfolding at_node
same_by_node f n caps sorted here there by =
    sum_by_node f n sorted there
    ∙ sum_of_alike (at_node f sorted) (at_node f caps) n (λ k k_n. ap (sum_by f) (by.same k))
    ∙ sym (sum_by_node f n caps here)

-- a net's tree has all its capacitors
pub total_by_tree : (n root : ℕ) (caps : List (ℕ × ℕ)) (edges : List (ℕ × ℕ × ℕ)) (tree : List Node) (order : List ℕ)
    → IsTreeOf n root caps edges tree order → All (λ cap. cap.0 < n) caps
    → total_capacitance tree ≡ total caps
unfolding at_node
total_by_tree n root caps edges tree order t all =
    sym (sum_of_items (λ (node : Node). node.c) (λ v. record { parent = v; r = 0; c = 0 }) tree)
    ∙ ap (λ (m : ℕ). sum_by (capacitance tree) (numbers m)) t.count
    ∙ sum_of_alike (capacitance tree) (λ i. capacitance_at caps (slice_index order i)) n t.capacitances
    ∙ sum_map (slice_index order) n n (λ _. true) (record {
      within = t.lists.within;
      inside = λ i i_n. refl;
      once = one_place n order t.lists;
      each = λ w w_n _. t.lists.each w w_n;
    }) (capacitance_at caps)
    ∙ sum_of_alike (capacitance_at caps) (at_node (λ (cap : ℕ × ℕ). cap.1) caps) n
    (λ k k_n. sym (sum_of_filter (λ (cap : ℕ × ℕ). cap.1) (λ cap. cap.0 == k) caps))
    ∙ sym (sum_by_node (λ (cap : ℕ × ℕ). cap.1) n caps all)
