-- What `filter_map` keeps of a range of numbers.
use Rattle.std.proofs.Common.{◌≡◌, ◌⊎◌, ℕ, zero, suc, ◌+◌, ◌<◌, ◌≤◌, List, [], ◌∷◌, refl, sym, ap, ◌∙◌, subst, arith, inl, inr, Option, None, Some, length, map, get_or, AllPairs, Contains, filter_map, option_map}
use Rattle.std.proofs.lemmas.Bool.{cases_eq}
use Rattle.std.specs.List.{range_with_len, cons_option}
use Rattle.cut_laws.proofs.BreadthLemmas.{differ, no_member, pairs_append}

map_cons : {X Y : Type 0} (h : X → Y) (o : Option X) (xs : List X) → cons_option (option_map h o) (map h xs) ≡ map h (cons_option o xs)
map_cons h None xs = refl
map_cons h (Some x) xs = refl

-- two functions that agree up to a map keep the same up to it
pub filter_mapped : {X Y : Type 0} (f : ℕ → Option Y) (g : ℕ → Option X) (h : X → Y) (a m : ℕ)
    → ((i : ℕ) → a ≤ i → i < a + m → f i ≡ option_map h (g i))
    → filter_map f (range_with_len a m) ≡ map h (filter_map g (range_with_len a m))
filter_mapped f g h a zero same = refl
filter_mapped {X} {Y} f g h a (suc m) same =
    ap (λ (o : Option Y). cons_option o (filter_map f (range_with_len (a + 1) m))) (same a (omega arith) (omega arith))
    ∙ ap (cons_option (option_map h (g a))) (filter_mapped f g h (a + 1) m (λ i low high. same i (omega arith) (omega arith)))
    ∙ map_cons h (g a) (filter_map g (range_with_len (a + 1) m))

pub single : (y h : ℕ) → Contains (y ∷ []) h → h ≡ y
single y h (i, i_n, e) = at i i_n e
  where
    at : (i : ℕ) → i < 1 → get_or (y ∷ []) i h ≡ h → h ≡ y
    at zero i_n e = sym e
    at (suc i) i_n e = absurd (omega arith)

pub member_cons : (y : ℕ) (xs : List ℕ) (h : ℕ) → Contains (y ∷ xs) h → (h ≡ y) ⊎ Contains xs h
member_cons y xs h (i, i_n, e) = at i i_n e
  where
    at : (i : ℕ) → i < suc (length xs) → get_or (y ∷ xs) i h ≡ h → (h ≡ y) ⊎ Contains xs h
    at zero i_n e = inl (sym e)
    at (suc i) i_n e = inr (i, omega arith, e)

-- y comes from the number i of the range
pub record CameAt (g : ℕ → Option ℕ) (a m y i : ℕ) : Type 0 where
  pub low : a ≤ i
  pub high : i < a + m
  pub gives : g i ≡ Some y

pub filter_from : (g : ℕ → Option ℕ) (a m y : ℕ) → Contains (filter_map g (range_with_len a m)) y → (i : ℕ) × CameAt g a m y i
filter_from g a zero y c = absurd (no_member y c)
filter_from g a (suc m) y c = either (λ c. later (filter_from g (a + 1) m y c)) (g a) refl c
  where
    later : (i : ℕ) × CameAt g (a + 1) m y i → (i : ℕ) × CameAt g a (suc m) y i
    later (i, f) = (i, record { low = omega (arith, f.low); high = omega (arith, f.high); gives = f.gives })

    either : (Contains (filter_map g (range_with_len (a + 1) m)) y → (i : ℕ) × CameAt g a (suc m) y i)
        → (o : Option ℕ) → g a ≡ o → Contains (cons_option o (filter_map g (range_with_len (a + 1) m))) y → (i : ℕ) × CameAt g a (suc m) y i
    either rest None e c = rest c
    either rest (Some z) e c =
        elim (member_cons z (filter_map g (range_with_len (a + 1) m)) y c) [
          | inl here ↦ (a, record { low = omega arith; high = omega arith; gives = e ∙ ap (λ x. Some x) (sym here) })
          | inr there ↦ rest there
        ]

later_member : (o : Option ℕ) (xs : List ℕ) (y : ℕ) → Contains xs y → Contains (cons_option o xs) y
later_member None xs y c = c
later_member (Some z) xs y (i, i_n, e) = (suc i, omega arith, e)

pub filter_has : (g : ℕ → Option ℕ) (a m i y : ℕ) → a ≤ i → i < a + m → g i ≡ Some y → Contains (filter_map g (range_with_len a m)) y
filter_has g a zero i y low high e = absurd (omega arith)
filter_has g a (suc m) i y low high e =
    elim (cases_eq i a) [
      | inl here ↦
          subst (λ o. Contains (cons_option o (filter_map g (range_with_len (a + 1) m))) y) (sym (ap g (sym here) ∙ e)) (0, omega arith, refl)
      | inr there ↦
          later_member (g a) (filter_map g (range_with_len (a + 1) m)) y (filter_has g (a + 1) m i y (omega arith) (omega arith) e)
    ]

-- no member twice, if no two numbers give the same
pub filter_once : (g : ℕ → Option ℕ) (a m : ℕ) → ((i k y : ℕ) → a ≤ i → a ≤ k → i < a + m → k < a + m → g i ≡ Some y → g k ≡ Some y → i ≡ k)
    → AllPairs differ (filter_map g (range_with_len a m))
filter_once g a zero one = λ i j d i_j j_n same. absurd (omega arith)
filter_once g a (suc m) one =
    either (g a) refl (filter_once g (a + 1) m (λ i k y i_a k_a i_m k_m. one i k y (omega arith) (omega arith) (omega arith) (omega arith)))
  where
    either : (o : Option ℕ) → g a ≡ o → AllPairs differ (filter_map g (range_with_len (a + 1) m))
        → AllPairs differ (cons_option o (filter_map g (range_with_len (a + 1) m)))
    either None e rest = rest
    either (Some z) e rest =
        pairs_append (z ∷ []) (filter_map g (range_with_len (a + 1) m)) (λ i j d i_j j_n same. absurd (omega arith)) rest
        (λ h first there.
        let (i, f) = filter_from g (a + 1) m h there in
        absurd (omega (
          arith,
          f.low,
          one i a h (omega (arith, f.low)) (omega arith) (omega (arith, f.high)) (omega arith) f.gives (e ∙ ap (λ x. Some x) (sym (single z h first))),
        )))
