-- A stack of points that names a hull.
use Rattle.std.proofs.Common.{◌≡◌, ℕ, ◌+◌, ◌-◌, ◌<◌, ◌≤◌, List, [], ◌∷◌, ◌++◌, length, get_or, take, sym, ap, ◌∙◌, subst, arith, inl, inr, cond, ◌<ℤ◌, ◌≤ℤ◌}
use Rattle.std.specs.Prelude.{ltb}
use Rattle.std.proofs.lemmas.Bool.{cases_lt, cond-true, cond-false, lt-ltb, le-ltb}
use Rattle.std.proofs.lemmas.List.{get_or_append_left, get_or_push, get_or-take, length_push, length-take-le}
use Rattle.elmore.specs.Pairs.{IsBelow}
use Rattle.elmore.specs.declared.pair.Pair.{Pair}
use Rattle.cand_pool.specs.Candidates.{Candidates, IsModest}
use Rattle.vg_convex.specs.Hulls.{value, Bends, Sags, IsHullSoFar, IsReadySoFar, IsGreatest}
use Rattle.vg_convex.specs.Places.{row, told_by, pair_in, IsPointOf, IsHullOf}
use Rattle.vg_convex.specs.declared.work.Point.{Point}
use Rattle.vg_convex.proofs.Numbers.{modest_point, pair_is}
use Rattle.vg_convex.proofs.Stacks.{ready_less, ready_on}
use Rattle.vg_convex.proofs.Peaks.{peak_greatest}

-- a point that was read from the stack
pub stack_at : (xs : Candidates) (n : ℕ) (stack : List Point) (h : IsHullOf xs n stack) (j : ℕ) (point : Point) → j < length stack
    → point ≡ get_or stack j point → IsPointOf xs point (h.numbers j)
stack_at xs n stack h j point low e = subst (λ (p : Point). IsPointOf xs p (h.numbers j)) (sym e) (h.points j point low)

-- three pairs under other names
three_as : (T : Pair → Pair → Pair → Type 0) (x y z x' y' z' : Pair) → x ≡ x' → y ≡ y' → z ≡ z' → T x y z → T x' y' z'
three_as T x y z x' y' z' e f g is =
    subst (λ (p : Pair). T p y' z') e (subst (λ (p : Pair). T x p z') f (subst (λ (p : Pair). T x y p) g is))

-- the last two points of a stack, and the point that is about to come on
pub record AreLast (xs : Candidates) (n i j : ℕ) (a b c : Point) : Type 0 where
  pub one : IsPointOf xs a i
  pub two : IsPointOf xs b j
  pub three : IsPointOf xs c n
  pub one_modest : IsModest (told_by a)
  pub two_modest : IsModest (told_by b)
  pub three_modest : IsModest (told_by c)
  pub one_two : IsBelow (pair_in a) (pair_in b)
  pub two_three : IsBelow (pair_in b) (pair_in c)

pub are_last : (xs : Candidates) (n : ℕ) (stack : List Point) (h : IsHullOf xs n stack) (left : ℕ) (a b c : Point) → 2 ≤ left → left ≤ length stack
    → IsPointOf xs c n → IsReadySoFar (row xs) n h.numbers left → a ≡ get_or stack (left - 2) a → b ≡ get_or stack (left - 1) b
    → AreLast xs n (h.numbers (left - 2)) (h.numbers (left - 1)) a b c
are_last xs n stack h left a b c two few at ready a_is b_is =
    let on : 0 < n = elim (cases_lt 0 n) [
      | inl some ↦ some
      | inr none ↦ let e : n ≡ 0 = omega arith in absurd (omega (arith, ready.none e, two))
    ] in
    let chain = (ready.some on).chain in
    let n_low : n < length xs = at.inside in
    let j_low : h.numbers (left - 1) < n = chain.inside (left - 1) (omega (arith, two)) in
    let one_at = stack_at xs n stack h (left - 2) a (omega (arith, two, few)) a_is in
    let two_at = stack_at xs n stack h (left - 1) b (omega (arith, two, few)) b_is in
    record {
      one = one_at;
      two = two_at;
      three = at;
      one_modest = modest_point xs a (h.numbers (left - 2)) h.modest one_at;
      two_modest = modest_point xs b (h.numbers (left - 1)) h.modest two_at;
      three_modest = modest_point xs c n h.modest at;
      one_two =
          below xs (h.numbers (left - 2)) (h.numbers (left - 1)) a b one_at two_at
          (h.rise (h.numbers (left - 2)) (h.numbers (left - 1)) (chain.rising (left - 2) (left - 1) (omega (arith, two)) (omega (arith, two))) (omega (arith, j_low, n_low)));
      two_three = below xs (h.numbers (left - 1)) n b c two_at at (h.rise (h.numbers (left - 1)) n j_low n_low);
    }
  where
    below : (xs : Candidates) (i j : ℕ) (a b : Point) → IsPointOf xs a i → IsPointOf xs b j → IsBelow (row xs i) (row xs j) → IsBelow (pair_in a) (pair_in b)
    below xs i j a b a_at b_at is =
        subst (λ (p : Pair). IsBelow p (pair_in b)) (sym (pair_is xs a i a_at)) (subst (λ (p : Pair). IsBelow (row xs i) p) (sym (pair_is xs b j b_at)) is)

-- the last of the stack comes off
pub pop_ready : (xs : Candidates) (n : ℕ) (stack : List Point) (h : IsHullOf xs n stack) (left : ℕ) (a b c : Point) → 2 ≤ left → left ≤ length stack
    → IsPointOf xs c n → IsReadySoFar (row xs) n h.numbers left → a ≡ get_or stack (left - 2) a → b ≡ get_or stack (left - 1) b
    → Sags (pair_in a) (pair_in b) (pair_in c) → IsReadySoFar (row xs) n h.numbers (left - 1)
pop_ready xs n stack h left a b c two few at ready a_is b_is sags =
    let l = are_last xs n stack h left a b c two few at ready a_is b_is in
    let n_low : n < length xs = at.inside in
    ready_less (row xs) n h.numbers left (λ i j i_j j_n. h.rise i j i_j (omega (arith, j_n, n_low))) two ready
    (three_as Sags (pair_in a) (pair_in b) (pair_in c) (row xs (h.numbers (left - 2))) (row xs (h.numbers (left - 1))) (row xs n)
    (pair_is xs a (h.numbers (left - 2)) l.one) (pair_is xs b (h.numbers (left - 1)) l.two) (pair_is xs c n at) sags)

pub rests : (xs : Candidates) (n : ℕ) (stack : List Point) (h : IsHullOf xs n stack) (left : ℕ) (a b c : Point) → 2 ≤ left → left ≤ length stack
    → IsPointOf xs c n → IsReadySoFar (row xs) n h.numbers left → a ≡ get_or stack (left - 2) a → b ≡ get_or stack (left - 1) b
    → Bends (pair_in a) (pair_in b) (pair_in c) → Bends (row xs (h.numbers (left - 2))) (row xs (h.numbers (left - 1))) (row xs n)
rests xs n stack h left a b c two few at ready a_is b_is bends =
    let l = are_last xs n stack h left a b c two few at ready a_is b_is in
    three_as Bends (pair_in a) (pair_in b) (pair_in c) (row xs (h.numbers (left - 2))) (row xs (h.numbers (left - 1))) (row xs n)
    (pair_is xs a (h.numbers (left - 2)) l.one) (pair_is xs b (h.numbers (left - 1)) l.two) (pair_is xs c n at) bends

-- the numbers of a stack of which so many points are left, with n after them
abbrev number_in : (ℕ → ℕ) → ℕ → ℕ → ℕ → ℕ
number_in numbers left n j = cond (ltb j left) (numbers j) n

-- the point goes on
pub pushed : (xs : Candidates) (n : ℕ) (stack : List Point) (h : IsHullOf xs n stack) (left : ℕ) (c : Point) (after : List Point) → left ≤ length stack
    → IsPointOf xs c n → IsReadySoFar (row xs) n h.numbers left
    → (2 ≤ left → Bends (row xs (h.numbers (left - 2))) (row xs (h.numbers (left - 1))) (row xs n))
    → after ≡ take left stack ++ c ∷ [] → IsHullOf xs (n + 1) after
pushed xs n stack h left c after few at ready bends after_is = record {
  rise = h.rise;
  modest = h.modest;
  few = omega (arith, at.inside);
  numbers = number_in h.numbers left n;
  points = λ j d low. there j d (omega (arith, low, long));
  hull = subst (λ m. IsHullSoFar (row xs) (n + 1) (number_in h.numbers left n) m) (sym long) (ready_on (row xs) n h.numbers (number_in h.numbers left n) left ready bends (λ j low. old j low) new);
}
  where
    old : (j : ℕ) → j < left → number_in h.numbers left n j ≡ h.numbers j
    old j low = cond-true (ltb j left) (h.numbers j) n (lt-ltb j left low)

    new : number_in h.numbers left n left ≡ n
    new = cond-false (ltb left left) (h.numbers left) n (le-ltb left left (omega arith))

    kept : length (take left stack) ≡ left
    kept = length-take-le left stack few

    long : length after ≡ left + 1
    long = ap length after_is ∙ length_push (take left stack) c ∙ ap (λ m. m + 1) kept

    there : (j : ℕ) (d : Point) → j < left + 1 → IsPointOf xs (get_or after j d) (number_in h.numbers left n j)
    there j d low = elim (cases_lt j left) [
      | inl less ↦
          let e : get_or after j d ≡ get_or stack j d
          = ap (λ (l : List Point). get_or l j d) after_is ∙ get_or_append_left (take left stack) (c ∷ []) d j (omega (arith, less, kept)) ∙ get_or-take left stack j d less in
          subst (λ k. IsPointOf xs (get_or after j d) k) (sym (old j less))
          (subst (λ (p : Point). IsPointOf xs p (h.numbers j)) (sym e) (h.points j d (omega (arith, less, few))))
      | inr more ↦
          let is : j ≡ left = omega arith in
          let e : get_or after j d ≡ c
          = ap (λ (l : List Point). get_or l j d) after_is ∙ get_or_push (take left stack) c d j (omega (arith, kept, is)) in
          subst (λ k. IsPointOf xs (get_or after j d) k) (sym (ap (number_in h.numbers left n) is ∙ new))
          (subst (λ (p : Point). IsPointOf xs p n) (sym e) at)
    ]

-- a stack that is not empty is a hull
pub some_hull : (xs : Candidates) (n : ℕ) (stack : List Point) (h : IsHullOf xs n stack) → 0 < length stack → 0 < n
some_hull xs n stack h some = elim (cases_lt 0 n) [
  | inl on ↦ on
  | inr off ↦ let e : n ≡ 0 = omega arith in absurd (omega (arith, h.hull.none e, some))
]

-- above a resistance points compare as the candidates that they tell of
pub worth_less : (xs : Candidates) (r i j : ℕ) (a b : Point) → IsPointOf xs a i → IsPointOf xs b j → value r (pair_in a) <ℤ value r (pair_in b)
    → value r (row xs i) <ℤ value r (row xs j)
worth_less xs r i j a b a_at b_at less =
    subst (λ (p : Pair). value r p <ℤ value r (row xs j)) (pair_is xs a i a_at) (subst (λ (p : Pair). value r (pair_in a) <ℤ value r p) (pair_is xs b j b_at) less)

pub worth_no_more : (xs : Candidates) (r i j : ℕ) (a b : Point) → IsPointOf xs a i → IsPointOf xs b j → value r (pair_in a) ≤ℤ value r (pair_in b)
    → value r (row xs i) ≤ℤ value r (row xs j)
worth_no_more xs r i j a b a_at b_at less =
    subst (λ (p : Pair). value r p ≤ℤ value r (row xs j)) (pair_is xs a i a_at) (subst (λ (p : Pair). value r (pair_in a) ≤ℤ value r p) (pair_is xs b j b_at) less)

-- a later point of the stack has more time and more load
pub points_rise : (xs : Candidates) (n : ℕ) (stack : List Point) (h : IsHullOf xs n stack) (i j : ℕ) (a b : Point) → i < j → j < length stack
    → IsPointOf xs a (h.numbers i) → IsPointOf xs b (h.numbers j) → IsBelow (pair_in a) (pair_in b)
points_rise xs n stack h i j a b less low a_at b_at =
    let chain = (h.hull.some (some_hull xs n stack h (omega (arith, low)))).chain in
    let below : IsBelow (row xs (h.numbers i)) (row xs (h.numbers j))
    = h.rise (h.numbers i) (h.numbers j) (chain.rising i j less low) (omega (arith, chain.inside j low, h.few)) in
    subst (λ (p : Pair). IsBelow p (pair_in b)) (sym (pair_is xs a (h.numbers i) a_at))
    (subst (λ (p : Pair). IsBelow (row xs (h.numbers i)) p) (sym (pair_is xs b (h.numbers j) b_at)) below)

-- a point of the stack that is worth more than the one before it, and no less than the one after it
pub peak_of : (xs : Candidates) (n : ℕ) (stack : List Point) (h : IsHullOf xs n stack) (r p : ℕ) → p < length stack
    → ((j : ℕ) → j + 1 ≡ p → value r (row xs (h.numbers j)) <ℤ value r (row xs (h.numbers p)))
    → (p + 1 < length stack → value r (row xs (h.numbers (p + 1))) ≤ℤ value r (row xs (h.numbers p))) → IsGreatest (row xs) n r (h.numbers p)
peak_of xs n stack h r p low before after =
    let few : n ≤ length xs = h.few in
    peak_greatest (row xs) n h.numbers (length stack) r p (λ i j i_j j_n. h.rise i j i_j (omega (arith, j_n, few)))
    (h.hull.some (some_hull xs n stack h (omega (arith, low)))) (record { inside = low; before = before; after = after })
