-- What stairs tell of the candidates that were seen.
use Rattle.std.proofs.Common.{◌≡◌, ◌⊎◌, ℕ, ◌≤◌, Bool, true, false, cond, List, [], ◌∷◌, ◌++◌, take, drop, refl, sym, ap, subst, set, arith, inl, inr, ◌≤ℤ◌}
use Rattle.std.proofs.lemmas.Int.{ints}
use Rattle.std.proofs.lemmas.List.{take-append-drop}
use Rattle.std.proofs.lemmas.List.Elements.{Contains-append_left, Contains-append_right, Contains-append_cases, Contains-push, Contains-push_cases, All-set, All-contains, All-weaker, All-contains_itself}
use Rattle.std.specs.List.{Contains}
use Rattle.cand_pairs.specs.Priced.{Priced, Beats}
use Rattle.cand_pairs.proofs.PricedLemmas.{beats_trans}
use Rattle.vg_front.specs.declared.offer.Offer.{Offer}
use Rattle.vg_front.specs.declared.stairs.Stair.{Stair}
use Rattle.vg_front.specs.declared.stairs.Stairs.{Stairs}
use Rattle.vg_front.specs.Offers.{priced, IsBeaten}
use Rattle.vg_front.specs.Seen.{on_stair, AreReachedAt, AreReached, AreOf, AreSomeOf, IsMoved}

pub beats_self : (a : Priced) → Beats a a
beats_self a = record { cost = omega arith; pair = record { time = omega (arith, ints); room = omega arith } }

pub beaten_more : (zs : List Priced) (y x : Priced) → IsBeaten zs x → IsBeaten (zs ++ y ∷ []) x
beaten_more zs y x (z, z_in, z_x) = (z, Contains-append_left zs (y ∷ []) z z_in, z_x)

pub beaten_last : (zs : List Priced) (x : Priced) → IsBeaten (zs ++ x ∷ []) x
beaten_last zs x = (x, Contains-push zs x, beats_self x)

pub beaten_over : (zs : List Priced) (y x : Priced) → IsBeaten zs y → Beats y x → IsBeaten zs x
beaten_over zs y x (z, z_in, z_y) y_x = (z, z_in, beats_trans x y z y_x z_y)

-- at a greater cost
pub reached_on : (m n : ℕ) (stairs : List Stair) (zs : List Priced) → m ≤ n → AreReachedAt m stairs zs → AreReachedAt n stairs zs
reached_on m n stairs zs more reached x found =
    beaten_over zs (on_stair m x) (on_stair n x) (reached x found)
    (record { cost = more; pair = record { time = omega (arith, ints); room = omega arith } })

pub none_reached : (n : ℕ) (stairs : List Stair) (zs : List Priced) → stairs ≡ [] → AreReachedAt n stairs zs
none_reached n stairs zs none x found = let (k, k_n, e) = subst (λ (xs : List Stair). Contains xs x) none found in absurd (omega arith)

-- some of them, at the same cost
pub reached_some : (old new : Stairs) (zs : List Priced) → AreSomeOf old new → AreReached old zs → AreReached new zs
reached_some old new zs some reached x found = subst (λ (n : ℕ). IsBeaten zs (on_stair n x)) (sym some.cost) (reached x (some.among x found))

-- one more is seen
pub reached_more : (m n : ℕ) (old new : List Stair) (zs : List Priced) (x : Offer) (y : Stair) → AreReachedAt m old zs → AreOf old y new
    → m ≡ x.cost → n ≡ m → y.c ≡ x.c → y.q ≡ x.q → AreReachedAt n new (zs ++ priced x ∷ [])
reached_more m n old new zs x y reached among at same c_is q_is s found =
    elim (among s found) [
      | inl before ↦
          beaten_over (zs ++ priced x ∷ []) (on_stair m s) (on_stair n s) (beaten_more zs (priced x) (on_stair m s) (reached s before))
          (record { cost = omega (arith, same); pair = record { time = omega (arith, ints); room = omega arith } })
      | inr here ↦
          beaten_over (zs ++ priced x ∷ []) (priced x) (on_stair n s) (beaten_last zs (priced x))
          (record {
            cost = omega (arith, at, same);
            pair = record { time = omega (arith, ints, ap (λ (t : Stair). t.q) here, q_is); room = omega (arith, ap (λ (t : Stair). t.c) here, c_is) };
          })
    ]

-- one is beaten by a stair
pub refused : (n : ℕ) (stairs : List Stair) (zs : List Priced) (x : Offer) (y : Stair) → AreReachedAt n stairs zs → Contains stairs y → n ≤ x.cost
    → y.c ≤ x.c → x.q ≤ℤ y.q
    → IsBeaten zs (priced x)
refused n stairs zs x y reached found cost load time =
    beaten_over zs (on_stair n y) (priced x) (reached y found) (record { cost = cost; pair = record { time = time; room = load } })

-- what stands in a list after a write
pub set_cases : {X : Type 0} (xs : List X) (i : ℕ) (y x : X) → Contains (set xs i y) x → Contains xs x ⊎ (x ≡ y)
set_cases {X} xs i y x found =
    All-contains (λ (z : X). Contains xs z ⊎ (z ≡ y)) (set xs i y) x
    (All-set (λ (z : X). Contains xs z ⊎ (z ≡ y)) xs i y (inr refl)
    (All-weaker (Contains xs) (λ (z : X). Contains xs z ⊎ (z ≡ y)) (λ z there. inl there) xs (All-contains_itself xs)))
    found

-- after a push that may fail
pub pushed_cases : {X : Type 0} (xs : List X) (done : Bool) (y x : X) → Contains (cond done (xs ++ y ∷ []) xs) x → Contains xs x ⊎ (x ≡ y)
pushed_cases xs true y x found = elim (Contains-push_cases xs y x found) [
  | inl old ↦ inl old
  | inr e ↦ inr (sym e)
]
pushed_cases xs false y x found = inl found

-- the last stair of a list goes to the end of another one
pub moved_last : (from from' to to' : List Stair) (y : Stair) → from ≡ from' ++ y ∷ [] → AreOf to y to' → IsMoved from to from' to'
moved_last from from' to to' y from_is kept x found = elim found [
  | inl left ↦ inl (subst (λ (l : List Stair). Contains l x) (sym from_is) (Contains-append_left from' (y ∷ []) x left))
  | inr there ↦ elim (kept x there) [
    | inl old ↦ inr old
    | inr e ↦ inl (subst (λ (l : List Stair). Contains l x) (sym from_is) (subst (Contains (from' ++ y ∷ [])) (sym e) (Contains-push from' y)))
  ]
]

both_cases : (p a : List Stair) (x : Stair) → Contains p x ⊎ Contains a x → Contains (p ++ a) x
both_cases p a x found = elim found [
  | inl here ↦ Contains-append_left p a x here
  | inr there ↦ Contains-append_right p a x there
]

pub moved_back : (p a p' a' : List Stair) → IsMoved p a p' a' → (x : Stair) → Contains (p' ++ a') x → Contains (p ++ a) x
moved_back p a p' a' moved x found = both_cases p a x (moved x (Contains-append_cases p' a' x found))

pub moved_on : (p a p' a' : List Stair) → IsMoved a p a' p' → (x : Stair) → Contains (p' ++ a') x → Contains (p ++ a) x
moved_on p a p' a' moved x found = both_cases p a x (flip (moved x (flip (Contains-append_cases p' a' x found))))
  where
    flip : {A B : Type 0} → A ⊎ B → B ⊎ A
    flip either = elim either [
      | inl a ↦ inr a
      | inr b ↦ inl b
    ]

pub left_in : {X : Type 0} (xs : List X) (n : ℕ) (x : X) → Contains (take n xs) x → Contains xs x
left_in {X} xs n x found = subst (λ (l : List X). Contains l x) (take-append-drop n xs) (Contains-append_left (take n xs) (drop n xs) x found)

-- some stairs at an end are dropped
pub dropped_behind : (p a : List Stair) (n : ℕ) (x : Stair) → Contains (take n p ++ a) x → Contains (p ++ a) x
dropped_behind p a n x found = elim (Contains-append_cases (take n p) a x found) [
  | inl here ↦ Contains-append_left p a x (left_in p n x here)
  | inr there ↦ Contains-append_right p a x there
]

pub dropped_ahead : (p a : List Stair) (n : ℕ) (x : Stair) → Contains (p ++ take n a) x → Contains (p ++ a) x
dropped_ahead p a n x found = elim (Contains-append_cases p (take n a) x found) [
  | inl here ↦ Contains-append_left p a x here
  | inr there ↦ Contains-append_right p a x (left_in a n x there)
]

-- a stair is put between
pub put_between : (old p a p' : List Stair) (y : Stair) → ((x : Stair) → Contains (p ++ a) x → Contains old x) → AreOf p y p' → AreOf old y (p' ++ a)
put_between old p a p' y among kept x found = elim (Contains-append_cases p' a x found) [
  | inl here ↦ elim (kept x here) [
    | inl before ↦ inl (among x (Contains-append_left p a x before))
    | inr e ↦ inr e
  ]
  | inr there ↦ inl (among x (Contains-append_right p a x there))
]
