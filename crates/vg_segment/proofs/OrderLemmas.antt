-- Capacitors in the order of their nodes.
use Rattle.std.proofs.Common.{◌≡◌, ℕ, zero, suc, ◌<◌, ◌≤◌, ◌==◌, ◌&&◌, not, Bool, true, false, cond, List, [], ◌∷◌, filter, refl, sym, ap, ◌∙◌, arith, inl, inr, nat_lt}
use Rattle.std.specs.List.{All, AllPairs}
use Rattle.std.specs.List.Sorted.{IsStableByKey, IsSortedByKey}
use Rattle.std.specs.Ordering.{nat_cmp, is_lt}
use Rattle.std.specs.declared.cmp.Ordering.TheVariants.{Less, Equal, Greater}
use Rattle.std.proofs.lemmas.Bool.{cases_lt, cases_eq, eq-eqb}
use Rattle.std.proofs.lemmas.Bool.Decides.{nat_tests}
use Rattle.std.proofs.lemmas.List.Elements.{filter_agree, All-tail}
use Rattle.std.proofs.lemmas.List.Sorted.{IsNonDecreasingBy-from_sort}
use Rattle.vg_segment.specs.Segments.{AreByNode}

less_is : (k n : ℕ) → is_lt (nat_cmp k n) ≡ nat_lt k n
less_is k n = by_tests (nat_lt k n) (k == n)
  where
    by_tests : (a b : Bool) → is_lt (cond a Less (cond b Equal Greater)) ≡ a
    by_tests true b = refl
    by_tests false true = refl
    by_tests false false = refl

-- numbers tie where they are equal
tie_is : (k n : ℕ) → (not (is_lt (nat_cmp k n)) && not (is_lt (nat_cmp n k))) ≡ (n == k)
tie_is k n = (λ i. not (less_is k n i) && not (less_is n k i)) ∙ (grind (arith, nat_tests))

-- a stable sort by the nodes
pub sorted_by_node : (caps sorted : List (ℕ × ℕ)) → IsSortedByKey (λ cap. cap.0) nat_cmp sorted → IsStableByKey (λ cap. cap.0) nat_cmp caps sorted → AreByNode caps sorted
sorted_by_node caps sorted rise stable =
    let up = IsNonDecreasingBy-from_sort (λ (cap : ℕ × ℕ). cap.0) sorted rise in
    record {
      rise = λ i j d l m. up i j d (omega arith) m;
      same = λ k.
          filter_agree (λ (cap : ℕ × ℕ). cap.0 == k) (λ (cap : ℕ × ℕ). not (is_lt (nat_cmp k cap.0)) && not (is_lt (nat_cmp cap.0 k))) (λ cap. sym (tie_is k cap.0)) sorted
          ∙ stable (k, 0)
          ∙ filter_agree (λ (cap : ℕ × ℕ). not (is_lt (nat_cmp k cap.0)) && not (is_lt (nat_cmp cap.0 k))) (λ (cap : ℕ × ℕ). cap.0 == k) (λ cap. tie_is k cap.0) caps;
    }

-- ---- lists in order that have the same items at each node are one list

abbrev Rises : List (ℕ × ℕ) → Type 0
Rises caps = AllPairs (λ a b. a.0 ≤ b.0) caps

abbrev at_node : ℕ → List (ℕ × ℕ) → List (ℕ × ℕ)
at_node k caps = filter (λ cap. cap.0 == k) caps

tail_rises : (x : ℕ × ℕ) (xs : List (ℕ × ℕ)) → Rises (x ∷ xs) → Rises xs
tail_rises x xs h = λ i j d l m. h (suc i) (suc j) d (omega arith) (omega arith)

none_below : (k : ℕ) (xs : List (ℕ × ℕ)) → All (λ cap. k < cap.0) xs → at_node k xs ≡ []
none_below k [] h = refl
none_below k (x ∷ xs) h =
    let low : k < x.0 = h 0 x (omega arith) in
    let other : (x.0 == k) ≡ false = grind (arith, nat_tests) in
    rw other (none_below k xs (All-tail (λ cap. k < cap.0) x xs h))

above : (k : ℕ) (x : ℕ × ℕ) (xs : List (ℕ × ℕ)) → k < x.0 → Rises (x ∷ xs) → All (λ cap. k < cap.0) (x ∷ xs)
above k x xs l h zero d m = l
above k x xs l h (suc i) d m = let up = h 0 (suc i) d (omega arith) m in omega (arith, up, l)

here : (x : ℕ × ℕ) (xs : List (ℕ × ℕ)) → at_node x.0 (x ∷ xs) ≡ x ∷ at_node x.0 xs
here x xs = let e : (x.0 == x.0) ≡ true = eq-eqb x.0 x.0 refl in rw e refl

no_lower : (x y : ℕ × ℕ) (xs ys : List (ℕ × ℕ)) → Rises (y ∷ ys) → at_node x.0 (x ∷ xs) ≡ at_node x.0 (y ∷ ys) → x.0 < y.0 → ⊥
no_lower x y xs ys h e l =
    let f : x ∷ at_node x.0 xs ≡ [] = sym (here x xs) ∙ e ∙ none_below x.0 (y ∷ ys) (above x.0 y ys l h) in
    cc

stripped : (b : Bool) (x y : ℕ × ℕ) (us vs : List (ℕ × ℕ)) → cond b (x ∷ us) us ≡ cond b (y ∷ vs) vs → us ≡ vs
stripped true x y us vs e = cc
stripped false x y us vs e = e

first_is : (x y : ℕ × ℕ) (us vs : List (ℕ × ℕ)) → x ∷ us ≡ y ∷ vs → x ≡ y
first_is x y us vs e = cc

same_head : (x y : ℕ × ℕ) (xs ys : List (ℕ × ℕ)) → ((k : ℕ) → at_node k (x ∷ xs) ≡ at_node k (y ∷ ys)) → x.0 ≡ y.0 → x ≡ y
same_head x y xs ys h e = first_is x y _ _ (sym (here x xs) ∙ h x.0 ∙ ap (λ k. at_node k (y ∷ ys)) e ∙ here y ys)

same_tails : (x y : ℕ × ℕ) (xs ys : List (ℕ × ℕ)) → ((k : ℕ) → at_node k (x ∷ xs) ≡ at_node k (y ∷ ys)) → x.0 ≡ y.0 → (k : ℕ) → at_node k xs ≡ at_node k ys
same_tails x y xs ys h e k =
    stripped (x.0 == k) x y (at_node k xs) (at_node k ys) (h k ∙ ap (λ n. cond (n == k) (y ∷ at_node k ys) (at_node k ys)) (sym e))

pub one_order : (xs ys : List (ℕ × ℕ)) → Rises xs → Rises ys → ((k : ℕ) → at_node k xs ≡ at_node k ys) → xs ≡ ys
one_order [] [] a b h = refl
one_order [] (y ∷ ys) a b h = let f : [] ≡ y ∷ at_node y.0 ys = h y.0 ∙ here y ys in absurd (cc)
one_order (x ∷ xs) [] a b h = let f : x ∷ at_node x.0 xs ≡ [] = sym (here x xs) ∙ h x.0 in absurd (cc)
one_order (x ∷ xs) (y ∷ ys) a b h =
    let e : x.0 ≡ y.0 = elim (cases_eq x.0 y.0) as (λ _. x.0 ≡ y.0) [
      | inl same ↦ same
      | inr differ ↦ elim (cases_lt x.0 y.0) as (λ _. x.0 ≡ y.0) [
        | inl less ↦ absurd (no_lower x y xs ys b (h x.0) less)
        | inr more ↦ absurd (no_lower y x ys xs a (sym (h y.0)) (omega (arith, more, differ)))
      ]
    ] in
    let p : x ≡ y = same_head x y xs ys h e in
    let q : xs ≡ ys = one_order xs ys (tail_rises x xs a) (tail_rises y ys b) (same_tails x y xs ys h e) in
    λ i. p i ∷ q i
