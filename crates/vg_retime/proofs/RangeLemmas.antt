-- Ranges of numbers, number by number.
use Rattle.std.proofs.Common.{◌≡◌, ℕ, zero, suc, ◌+◌, ◌<◌, ◌≤◌, Bool, true, false, cond, ℤ, ◌≤ℤ◌, List, [], ◌∷◌, ◌++◌, get_or, refl, sym, ap, ◌∙◌, subst, arith, inl, inr, Option, Some, None}
use Rattle.std.specs.List.{cons_option, filter_map, find, range_with_len}
use Rattle.std.proofs.lemmas.Bool.{cases_eq}
use Rattle.std.proofs.lemmas.Int.{ints}
use Rattle.std.proofs.lemmas.List.{append-nil, append_assoc}
use Rattle.std.proofs.lemmas.List.Elements.{Contains-append_left, Contains-append_right, filter_map-append}
use Rattle.vg_retime.proofs.LeastLemmas.{first_in}
use Rattle.vg_retime.proofs.SignalListLemmas.{all_next}
use Rattle.vg_retime.specs.Times.{IsLeastOf}

range_more : (a n : ℕ) → range_with_len a (n + 1) ≡ range_with_len a n ++ (a + n) ∷ []
range_more a zero = let same : a ≡ a + 0 = omega arith in ap (λ (k : ℕ). k ∷ []) same
range_more a (suc n) =
    let same : (a + 1) + n ≡ a + suc n = omega arith in
    let less : suc n + 1 ≡ suc (n + 1) = omega arith in
    ap (range_with_len a) less ∙ ap (λ (xs : List ℕ). a ∷ xs) (range_more (a + 1) n ∙ ap (λ (k : ℕ). range_with_len (a + 1) n ++ k ∷ []) same)

-- what a function keeps of one number more
pub kept_more : {Y : Type 0} (h : ℕ → Option Y) (i : ℕ) → filter_map h (range_with_len 0 (i + 1)) ≡ filter_map h (range_with_len 0 i) ++ cons_option (h i) []
kept_more {Y} h i =
    let same : 0 + i ≡ i = omega arith in
    ap (filter_map h) (range_more 0 i ∙ ap (λ (k : ℕ). range_with_len 0 i ++ k ∷ []) same) ∙ filter_map-append h (range_with_len 0 i) (i ∷ [])

-- the first number that passes a test
pub found_at : (p : ℕ → Bool) (a n i : ℕ) → a ≤ i → i < a + n → ((k : ℕ) → a ≤ k → k < i → p k ≡ false) → p i ≡ true → find p (range_with_len a n) ≡ Some i
found_at p a zero i low high none here = absurd (omega arith)
found_at p a (suc n) i low high none here =
    elim (cases_eq a i) [
      | inl same ↦
          (let test : p a ≡ true = ap p same ∙ here in ap (λ (b : Bool). cond b (Some a) (find p (range_with_len (a + 1) n))) test ∙ ap (λ (k : ℕ). Some k) same)
      | inr other ↦
          (let above : a + 1 ≤ i = omega arith in
          ap (λ (b : Bool). cond b (Some a) (find p (range_with_len (a + 1) n))) (none a (omega arith) (omega arith))
          ∙ found_at p (a + 1) n i above (omega arith) (λ k k_low k_high. none k (omega arith) k_high) here)
    ]

pub found_none : (p : ℕ → Bool) (a n : ℕ) → ((k : ℕ) → a ≤ k → k < a + n → p k ≡ false) → find p (range_with_len a n) ≡ None
found_none p a zero none = refl
found_none p a (suc n) none =
    ap (λ (b : Bool). cond b (Some a) (find p (range_with_len (a + 1) n))) (none a (omega arith) (omega arith))
    ∙ found_none p (a + 1) n (λ k low high. none k (omega arith) (omega arith))

-- ---- the least of one time more

pub least_stays : (times : List ℤ) (least left : ℤ) → least ≤ℤ left → IsLeastOf times (Some least) → IsLeastOf (times ++ left ∷ []) (Some least)
least_stays times least left less (has, all) =
    (Contains-append_left times (left ∷ []) least has, all_next (λ y. least ≤ℤ y) times left all less)

pub least_new : (times : List ℤ) (least left : ℤ) → left ≤ℤ least → IsLeastOf times (Some least) → IsLeastOf (times ++ left ∷ []) (Some left)
least_new times least left less (has, all) = (
  Contains-append_right times (left ∷ []) left (first_in left []),
  all_next (λ y. left ≤ℤ y) times left (λ k e low. after (get_or times k e) (all k e low)) (omega (arith, ints)),
)
  where
    after : (y : ℤ) → least ≤ℤ y → left ≤ℤ y
    after y h = omega (arith, ints)

-- one node more, at which nothing is left, or some time
pub least_skips : (times : List ℤ) (h : ℕ → Option ℤ) (i : ℕ) (least : Option ℤ) → h i ≡ None → IsLeastOf (times ++ filter_map h (range_with_len 0 i)) least
    → IsLeastOf (times ++ filter_map h (range_with_len 0 (i + 1))) least
least_skips times h i least none is =
    subst (λ (xs : List ℤ). IsLeastOf (times ++ xs) least)
    (sym (kept_more h i ∙ ap (λ (o : Option ℤ). filter_map h (range_with_len 0 i) ++ cons_option o []) none ∙ append-nil (filter_map h (range_with_len 0 i)))) is

pub least_takes : (times : List ℤ) (h : ℕ → Option ℤ) (i : ℕ) (left : ℤ) (least next : Option ℤ) → h i ≡ Some left
    → ((xs : List ℤ) → IsLeastOf xs least → IsLeastOf (xs ++ left ∷ []) next) → IsLeastOf (times ++ filter_map h (range_with_len 0 i)) least
    → IsLeastOf (times ++ filter_map h (range_with_len 0 (i + 1))) next
least_takes times h i left least next here more is =
    subst (λ (xs : List ℤ). IsLeastOf xs next)
    (append_assoc times (filter_map h (range_with_len 0 i)) (left ∷ [])
    ∙ ap (λ (xs : List ℤ). times ++ xs) (sym (kept_more h i ∙ ap (λ (o : Option ℤ). filter_map h (range_with_len 0 i) ++ cons_option o []) here)))
    (more (times ++ filter_map h (range_with_len 0 i)) is)
