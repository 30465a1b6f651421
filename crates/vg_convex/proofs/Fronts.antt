-- The first points of a hull, from whose end some come off.
use Rattle.std.proofs.Common.{◌≡◌, ℕ, ◌+◌, ◌-◌, ◌<◌, ◌≤◌, ◌<ℤ◌, ◌≤ℤ◌, List, length, get_or, ap, subst, arith, inl, inr}
use Rattle.std.proofs.lemmas.Bool.{cases_lt}
use Rattle.std.proofs.lemmas.List.{get_or_default}
use Rattle.cand_pool.specs.Candidates.{Candidates}
use Rattle.elmore.specs.Pairs.{IsBelow}
use Rattle.vg_convex.specs.declared.shelf.Driver.{Driver}
use Rattle.vg_convex.specs.declared.work.Point.{Point}
use Rattle.vg_convex.specs.Hulls.{value, IsGreatest}
use Rattle.vg_convex.specs.Orders.{RiseInResistance}
use Rattle.vg_convex.specs.Places.{row, IsHullOf, IsFrontOf, AreFrontOf}
use Rattle.vg_convex.proofs.Lines.{value_turns}
use Rattle.vg_convex.proofs.Places.{some_hull, peak_of}

-- neighbours of the hull
next_below : (xs : Candidates) (stack : List Point) (h : IsHullOf xs (length xs) stack) (j : ℕ) → 0 < j → j < length stack
    → IsBelow (row xs (h.numbers (j - 1))) (row xs (h.numbers j))
next_below xs stack h j some low =
    let chain = (h.hull.some (some_hull xs (length xs) stack h (omega (arith, low)))).chain in
    h.rise (h.numbers (j - 1)) (h.numbers j) (chain.rising (j - 1) j (omega (arith, some)) low) (chain.inside j low)

-- above more resistance what came off is worth no more either
pub front_turns : (xs : Candidates) (stack : List Point) (left r r' : ℕ) → r ≤ r' → IsFrontOf xs stack left r → IsFrontOf xs stack left r'
front_turns xs stack left r r' more f = record {
  hull = f.hull;
  some = f.some;
  inside = f.inside;
  falls = λ off.
      value_turns r r' (row xs (f.hull.numbers (left - 1))) (row xs (f.hull.numbers left)) (next_below xs stack f.hull left f.some off) more (f.falls off);
}

-- the last of them comes off, which is worth no more than the one before it
pub front_less : (xs : Candidates) (stack : List Point) (left r : ℕ) → 2 ≤ left → (f : IsFrontOf xs stack left r)
    → value r (row xs (f.hull.numbers (left - 1))) ≤ℤ value r (row xs (f.hull.numbers (left - 2))) → IsFrontOf xs stack (left - 1) r
front_less xs stack left r two f less = record {
  hull = f.hull;
  some = omega (arith, two);
  inside = omega (arith, f.inside);
  falls = λ off.
      let before : left - 2 ≡ left - 1 - 1 = omega arith in
      subst (λ m. value r (row xs (f.hull.numbers (left - 1))) ≤ℤ value r (row xs (f.hull.numbers m))) before less;
}

-- to the later drivers of an order by resistance too
pub fronts_less : (xs : Candidates) (stack : List Point) (left : ℕ) (drivers : List Driver) (at : ℕ) (driver : Driver) → RiseInResistance drivers → at < length drivers
    → driver ≡ get_or drivers at driver → IsFrontOf xs stack left driver.r → AreFrontOf xs stack left drivers at
fronts_less xs stack left drivers at driver rise low read f i d later i_low = elim (cases_lt at i) [
  | inl after ↦
      let more : driver.r ≤ (get_or drivers i d).r =
      omega (arith, ap (λ (x : Driver). x.r) read, ap (λ (x : Driver). x.r) (get_or_default drivers at d driver low), rise at i d after i_low) in
      front_turns xs stack left driver.r (get_or drivers i d).r more f
  | inr back ↦
      let same : i ≡ at = omega (arith, back, later) in
      let more : driver.r ≤ (get_or drivers i d).r =
      omega (
        arith,
        ap (λ (x : Driver). x.r) read,
        ap (λ (x : Driver). x.r) (get_or_default drivers at d driver low),
        ap (λ m. (get_or drivers m d).r) same,
      ) in
      front_turns xs stack left driver.r (get_or drivers i d).r more f
]

-- the last of them is worth the most, if it is worth more than the one before it
pub front_greatest : (xs : Candidates) (stack : List Point) (left r : ℕ) → (f : IsFrontOf xs stack left r)
    → (2 ≤ left → value r (row xs (f.hull.numbers (left - 2))) <ℤ value r (row xs (f.hull.numbers (left - 1))))
    → IsGreatest (row xs) (length xs) r (f.hull.numbers (left - 1))
front_greatest xs stack left r f more =
    peak_of xs (length xs) stack f.hull r (left - 1) (omega (arith, f.some, f.inside))
    (λ j e.
    let at : left - 2 ≡ j = omega (arith, e) in
    subst (λ m. value r (row xs (f.hull.numbers m)) <ℤ value r (row xs (f.hull.numbers (left - 1)))) at (more (omega (arith, e))))
    (λ off.
    let up : left ≡ left - 1 + 1 = omega (arith, f.some) in
    subst (λ m. value r (row xs (f.hull.numbers m)) ≤ℤ value r (row xs (f.hull.numbers (left - 1)))) up (f.falls (omega (arith, off, f.some))))
