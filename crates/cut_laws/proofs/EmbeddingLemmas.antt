-- Paths and sums of a tree whose nodes stand for nodes of a forest.
use Rattle.std.proofs.Common.{◌≡◌, ◌≢◌, ℕ, ◌<◌, Bool, true, refl, sym, ap, ◌∙◌, subst, eqb, cond, arith, inl, inr}
use Rattle.std.proofs.lemmas.Bool.{eq-eqb, ne_eqb, cases_eq, cases_Bool, false≢true}
use Rattle.std.specs.List.{sum_by}
use Rattle.elmore.specs.Path.{Falls, is_over, nodes}
use Rattle.elmore.proofs.PathLemmas.{over_self, over_at_root, over_below, over_le, over_smaller}
use Rattle.elmore.proofs.RootLemmas.{IsRooted, from_root}
use Rattle.elmore.proofs.SumLemmas.{sum_of_sums, sum_of_alike, sum_of_none, sum_at}

-- each of the m nodes of the tree `small` stands for a node of its own, and its parent for the parent of that
pub record IsEmbedded (small : ℕ → ℕ) (m : ℕ) (parent at : ℕ → ℕ) : Type 0 where
  pub tree : IsRooted small m
  pub some : 0 < m
  pub falls : Falls parent
  pub once : (i k : ℕ) → i < m → k < m → at i ≡ at k → i ≡ k
  pub edges : (i : ℕ) → 0 < i → i < m → at (small i) ≡ parent (at i)

pub edge_moves : (small : ℕ → ℕ) (m : ℕ) (parent at : ℕ → ℕ) → IsEmbedded small m parent at → (i : ℕ) → 0 < i → i < m → parent (at i) ≢ at i
edge_moves small m parent at e i i_0 i_m same =
    let above : small i < i = e.tree.above i i_0 i_m in
    let no : small i ≡ i = e.once (small i) i (omega arith) i_m (e.edges i i_0 i_m ∙ same) in
    absurd (omega arith)

-- all of them stand for nodes at or below that of the root
pub over_at : (small : ℕ → ℕ) (m : ℕ) (parent at : ℕ → ℕ) → IsEmbedded small m parent at → (i : ℕ) → i < m → is_over parent (at 0) (at i) ≡ true
over_at small m parent at e =
    from_root small m e.tree (λ i. is_over parent (at 0) (at i) ≡ true)
    (over_self parent e.falls (at 0))
    (λ i i_0 i_m more.
    let other : at i ≢ at 0 = λ same. absurd (omega (arith, e.once i 0 i_m e.some same)) in
    over_below parent e.falls (at 0) (at i) (edge_moves small m parent at e i i_0 i_m) other
    ∙ ap (is_over parent (at 0)) (sym (e.edges i i_0 i_m))
    ∙ more)

-- one is over the other where what they stand for is
pub over_map : (small : ℕ → ℕ) (m : ℕ) (parent at : ℕ → ℕ) → IsEmbedded small m parent at → (i : ℕ) → i < m → (j : ℕ) → j < m
    → is_over small i j ≡ is_over parent (at i) (at j)
over_map small m parent at e i i_m =
    from_root small m e.tree (λ j. is_over small i j ≡ is_over parent (at i) (at j))
    (elim (cases_eq i 0) [
      | inl i_0 ↦ both i 0 i_0
      | inr i_0 ↦
          let other : at 0 ≢ at i = λ same. i_0 (sym (e.once 0 i e.some i_m same)) in
          over_at_root small e.tree.falls i 0 e.tree.root (λ z. i_0 (sym z))
          ∙ sym (over_smaller parent e.falls (at i) (at 0) (omega (arith, over_le parent e.falls (at 0) (at i) (over_at small m parent at e i i_m), other)))
    ])
    (λ j j_0 j_m more.
    elim (cases_eq i j) [
      | inl i_j ↦ both i j i_j
      | inr i_j ↦
          over_below small e.tree.falls i j (λ r. absurd (omega (arith, e.tree.above j j_0 j_m))) (λ z. i_j (sym z))
          ∙ more
          ∙ ap (is_over parent (at i)) (e.edges j j_0 j_m)
          ∙ sym (over_below parent e.falls (at i) (at j) (edge_moves small m parent at e j j_0 j_m) (λ same. i_j (e.once i j i_m j_m (sym same))))
    ])
  where
    both : (a b : ℕ) → a ≡ b → is_over small a b ≡ is_over parent (at a) (at b)
    both a b same = subst (λ x. is_over small a x ≡ is_over parent (at a) (at x)) same (over_self small e.tree.falls a ∙ sym (over_self parent e.falls (at a)))

-- `at` takes the numbers below m to those below n that are hit, each once
pub record AreHits (at : ℕ → ℕ) (m n : ℕ) (hit : ℕ → Bool) : Type 0 where
  pub within : (i : ℕ) → i < m → at i < n
  pub inside : (i : ℕ) → i < m → hit (at i) ≡ true
  pub once : (i k : ℕ) → i < m → k < m → at i ≡ at k → i ≡ k
  pub each : (w : ℕ) → w < n → hit w ≡ true → (i : ℕ) × (i < m) × (at i ≡ w)

-- so a sum over the first is one over these
pub sum_map : (at : ℕ → ℕ) (m n : ℕ) (hit : ℕ → Bool) → AreHits at m n hit → (f : ℕ → ℕ)
    → sum_by (λ j. f (at j)) (nodes m) ≡ sum_by (λ w. cond (hit w) (f w) 0) (nodes n)
sum_map at m n hit h f =
    sum_of_alike (λ j. f (at j)) (λ j. sum_by (λ w. cond (eqb w (at j)) (f w) 0) (nodes n)) m
    (λ j j_m. sym (sum_at f (at j) 0 n (omega arith) (omega (arith, h.within j j_m))))
    ∙ sum_of_sums (λ j w. cond (eqb w (at j)) (f w) 0) (nodes m) (nodes n)
    ∙ sum_of_alike (λ w. sum_by (λ j. cond (eqb w (at j)) (f w) 0) (nodes m)) (λ w. cond (hit w) (f w) 0) n one
  where
    one : (w : ℕ) → w < n → sum_by (λ j. cond (eqb w (at j)) (f w) 0) (nodes m) ≡ cond (hit w) (f w) 0
    one w w_n =
        elim (cases_Bool (hit w)) [
          | inl hits ↦
              let (i, i_m, here) = h.each w w_n hits in
              sum_of_alike (λ j. cond (eqb w (at j)) (f w) 0) (λ j. cond (eqb j i) (f w) 0) m
              (λ j j_m.
              elim (cases_eq j i) [
                | inl e ↦ rw (eq-eqb j i e, eq-eqb w (at j) (sym here ∙ ap at (sym e))) refl
                | inr e ↦ rw (ne_eqb j i e, ne_eqb w (at j) (λ same. e (h.once j i j_m i_m (sym same ∙ sym here)))) refl
              ])
              ∙ sum_at (λ _. f w) i 0 m (omega arith) (omega arith)
              ∙ ap (λ (b : Bool). cond b (f w) 0) (sym hits)
          | inr misses ↦
              sum_of_alike (λ j. cond (eqb w (at j)) (f w) 0) (λ _. 0) m
              (λ j j_m. ap (λ (b : Bool). cond b (f w) 0) (ne_eqb w (at j) (λ same. false≢true (sym misses ∙ ap hit same ∙ h.inside j j_m))))
              ∙ sum_of_none {X = ℕ} (nodes m)
              ∙ ap (λ (b : Bool). cond b (f w) 0) (sym misses)
        ]
