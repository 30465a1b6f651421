-- How many leads to a net are not yet listed.
use Rattle.std.proofs.Common.{◌≡◌, ◌≢◌, ℕ, zero, suc, ◌+◌, ◌<◌, ◌≤◌, ◌==◌, ◌&&◌, not, true, false, Bool, List, [], ◌∷◌, ◌++◌, length, get_or, refl, sym, ap, ◌∙◌, subst, arith, inl, inr}
use Rattle.std.proofs.lemmas.Bool.{cases_eq, cases_lt, cases_Bool, eq-eqb, ne_eqb}
use Rattle.sta_graph.specs.Orders.{IsAmong}
use Rattle.sta_graph.specs.Peeling.{is_listed, left_to, one_if}

only_left : (a b : Bool) → b ≡ false → one_if (a && not b) ≡ one_if a
only_left true b e = rw e refl
only_left false b e = refl

done_left : (a b : Bool) → b ≡ true → one_if (a && not b) ≡ 0
done_left true b e = rw e refl
done_left false b e = refl

left_same : (to : ℕ → ℕ) (f h : ℕ → Bool) (v i m : ℕ) → ((k : ℕ) → k ≢ i → h k ≡ f k) → m ≤ i → left_to to h v m ≡ left_to to f v m
left_same to f h v i zero agree le = refl
left_same to f h v i (suc m) agree le =
    let e = left_same to f h v i m agree (omega arith) in
    let here : h m ≡ f m = agree m (omega arith) in
    rw (e, here) refl

-- one more is done
pub left_step : (to : ℕ → ℕ) (f h : ℕ → Bool) (v i m : ℕ) → f i ≡ false → h i ≡ true → ((k : ℕ) → k ≢ i → h k ≡ f k) → i < m
    → left_to to h v m + one_if (to i == v) ≡ left_to to f v m
left_step to f h v i zero off on agree low = absurd (omega arith)
left_step to f h v i (suc m) off on agree low =
    elim (cases_eq m i) [
      | inl e ↦
          let same = left_same to f h v i m agree (omega arith) in
          let gone = done_left (to m == v) (h m) (ap h e ∙ on) in
          let was = only_left (to m == v) (f m) (ap f e ∙ off) in
          let at : one_if (to m == v) ≡ one_if (to i == v) = ap (λ (k : ℕ). one_if (to k == v)) e in
          omega arith
      | inr other ↦
          let same = left_step to f h v i m off on agree (omega arith) in
          let here : one_if ((to m == v) && not (h m)) ≡ one_if ((to m == v) && not (f m)) = ap (λ (b : Bool). one_if ((to m == v) && not b)) (agree m other) in
          omega arith
    ]

pub left_zero : (to : ℕ → ℕ) (f : ℕ → Bool) (v i m : ℕ) → left_to to f v m ≡ 0 → i < m → to i ≡ v → f i ≡ true
left_zero to f v i zero none low at = absurd (omega arith)
left_zero to f v i (suc m) none low at =
    elim (cases_eq i m) [
      | inl e ↦ elim (cases_Bool (f m)) [
        | inl done ↦ ap f e ∙ done
        | inr off ↦
            let was = only_left (to m == v) (f m) off in
            let hit : one_if (to m == v) ≡ 1 = rw (eq-eqb (to m) v (sym (ap to e) ∙ at)) refl in
            absurd (omega arith)
      ]
      | inr other ↦ left_zero to f v i m (omega arith) (omega arith) at
    ]

pub left_some : (to : ℕ → ℕ) (f : ℕ → Bool) (v m : ℕ) → 0 < left_to to f v m → (i : ℕ) × (i < m) × (to i ≡ v) × (f i ≡ false)
left_some to f v zero some = absurd (omega arith)
left_some to f v (suc m) some =
    elim (cases_lt 0 (left_to to f v m)) [
      | inl low ↦ let (i, h, at, off) = left_some to f v m low in (i, omega arith, at, off)
      | inr none ↦ elim (cases_eq (to m) v) [
        | inl e ↦ elim (cases_Bool (f m)) [
          | inl done ↦ let gone = done_left (to m == v) (f m) done in absurd (omega arith)
          | inr off ↦ (m, omega arith, e, off)
        ]
        | inr other ↦
            let gone : one_if ((to m == v) && not (f m)) ≡ 0 = rw (ne_eqb (to m) v other) refl in
            absurd (omega arith)
      ]
    ]

pub left_few : (to : ℕ → ℕ) (f : ℕ → Bool) (v m : ℕ) → left_to to f v m ≤ m
left_few to f v zero = omega arith
left_few to f v (suc m) =
    let e = left_few to f v m in
    let one : (b : Bool) → one_if b ≤ 1 = λ b. elim b as (λ c. one_if c ≤ 1) [ true ↦ omega arith | false ↦ omega arith ] in
    omega (arith, one ((to m == v) && not (f m)))

-- a list's last element
pub before_more : (xs : List ℕ) (x k : ℕ) → k < length xs → get_or (xs ++ (x ∷ [])) k 0 ≡ get_or xs k 0
before_more [] x k h = absurd (omega arith)
before_more (y ∷ xs) x zero h = refl
before_more (y ∷ xs) x (suc k) h = before_more xs x k (omega arith)

pub at_more : (xs : List ℕ) (x : ℕ) → get_or (xs ++ (x ∷ [])) (length xs) 0 ≡ x
at_more [] x = refl
at_more (y ∷ xs) x = at_more xs x

pub length_more : (xs : List ℕ) (x : ℕ) → length (xs ++ (x ∷ [])) ≡ length xs + 1
length_more [] x = refl
length_more (y ∷ xs) x = let e = length_more xs x in omega arith

pub more_each : (xs : List ℕ) (x : ℕ) (P : ℕ → ℕ → Type 0) → ((k : ℕ) → k < length xs → P k (get_or xs k 0)) → P (length xs) x
    → (k : ℕ) → k < length xs + 1 → P k (get_or (xs ++ (x ∷ [])) k 0)
more_each xs x P old new k h =
    elim (cases_eq k (length xs)) [
      | inl e ↦
          subst (λ (j : ℕ). P j (get_or (xs ++ (x ∷ [])) j 0)) (sym e) (subst (P (length xs)) (sym (at_more xs x)) new)
      | inr other ↦ subst (P k) (sym (before_more xs x k (omega arith))) (old k (omega arith))
    ]

-- what stands among the first stays there
pub among_more : (xs : List ℕ) (x m i : ℕ) → m ≤ length xs → IsAmong xs m i → IsAmong (xs ++ (x ∷ [])) m i
among_more xs x m i le (k, k_m, is) = (k, k_m, before_more xs x k (omega arith) ∙ is)

pub among_wider : (xs : List ℕ) (m n i : ℕ) → m ≤ n → IsAmong xs m i → IsAmong xs n i
among_wider xs m n i le (k, k_m, is) = (k, omega arith, is)

-- the test for it
pub listed : (xs : List ℕ) (i : ℕ) → IsAmong xs (length xs) i → is_listed xs i ≡ true
listed [] i (k, h, is) = absurd (omega arith)
listed (x ∷ xs) i (zero, h, is) = rw (eq-eqb x i is) refl
listed (x ∷ xs) i (suc k, h, is) =
    let e = listed xs i (k, omega arith, is) in
    elim (cases_Bool (x == i)) [
      | inl done ↦ rw done refl
      | inr off ↦ rw (off, e) refl
    ]

pub is_among : (xs : List ℕ) (i : ℕ) → is_listed xs i ≡ true → IsAmong xs (length xs) i
is_among [] i e = absurd (cc)
is_among (x ∷ xs) i e =
    elim (cases_eq x i) [
      | inl same ↦ (0, omega arith, same)
      | inr other ↦
          let rest : is_listed xs i ≡ true = rw (ne_eqb x i other) at e in
          let (k, h, is) = is_among xs i rest in
          (suc k, omega arith, is)
    ]

pub listed_other : (xs : List ℕ) (x i : ℕ) → i ≢ x → is_listed (xs ++ (x ∷ [])) i ≡ is_listed xs i
listed_other [] x i other = let e : (x == i) ≡ false = ne_eqb x i (λ same. other (sym same)) in rw e refl
listed_other (y ∷ xs) x i other = rw (listed_other xs x i other) refl

pub listed_last : (xs : List ℕ) (x : ℕ) → is_listed (xs ++ (x ∷ [])) x ≡ true
listed_last xs x = listed (xs ++ (x ∷ [])) x (length xs, omega (arith, length_more xs x), at_more xs x)

-- within a list the value that is read past its end does not matter
pub read : (xs : List ℕ) (i x : ℕ) → i < length xs → x ≡ get_or xs i x → x ≡ get_or xs i 0
read xs i x h e = e ∙ same xs i h
  where
    same : (ys : List ℕ) (k : ℕ) → k < length ys → get_or ys k x ≡ get_or ys k 0
    same [] k h = absurd (omega arith)
    same (y ∷ ys) zero h = refl
    same (y ∷ ys) (suc k) h = same ys k (omega arith)
