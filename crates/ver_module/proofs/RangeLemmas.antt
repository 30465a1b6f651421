-- The bits of vectors.
use Rattle.std.proofs.Common.{◌≡◌, ℕ, ◌+◌, ◌-◌, ◌≤◌, ◌<◌, nat_le, min, max, Bool, true, false, ◌&&◌, List, [], ◌∷◌, Option, None, Some, length, reverse, refl, sym, ap, ◌∙◌, arith, get_or, if◌then◌else◌}
use Rattle.std.specs.List.{range_with_len}
use Rattle.std.proofs.lemmas.Bool.Decides.{nat_tests}
use Rattle.std.specs.Prelude.{option_map, slice_get}
use Rattle.std.proofs.lemmas.List.{length-map, length-reverse, get_or-reverse}
use Rattle.std.proofs.lemmas.Option.{slice_get-get_or, slice_get-map}
use Rattle.std.proofs.lemmas.List.FromFn.{length-range_with_len, get_or-range_with_len}
use Rattle.ver_module.specs.declared.range.Range.{Range}
use Rattle.ver_module.specs.Ranges.{bits_from, bits_of, is_within}

-- the bits between two bounds, by whether they rise
abbrev bits : Bool → ℕ → ℕ → List ℕ
bits rises l r = if rises then range_with_len l (r - l + 1) else reverse (range_with_len r (l - r + 1))

count_up : (l r : ℕ) → length (bits true l r) ≡ r - l + 1
count_up l r = length-range_with_len l (r - l + 1)

count_down : (l r : ℕ) → length (bits false l r) ≡ l - r + 1
count_down l r = length-reverse (range_with_len r (l - r + 1)) ∙ length-range_with_len r (l - r + 1)

pub rising : (range : Range) → range.left ≤ range.right → length (bits_from range) ≡ range.right - range.left + 1
rising range h = let e : nat_le range.left range.right ≡ true = grind (arith, nat_tests, h) in rw e (count_up range.left range.right)

pub falling : (range : Range) → range.right < range.left → length (bits_from range) ≡ range.left - range.right + 1
falling range h = let e : nat_le range.left range.right ≡ false = grind (arith, nat_tests, h) in rw e (count_down range.left range.right)

pub bits_count : (range : Range) → length (bits_from range) ≡ (range.left - range.right) + (range.right - range.left) + 1
bits_count range = by_test (nat_le range.left range.right) refl
  where
    by_test : (b : Bool) → nat_le range.left range.right ≡ b → length (bits_from range) ≡ (range.left - range.right) + (range.right - range.left) + 1
    by_test true e = let h : range.left ≤ range.right = grind (arith, nat_tests, e) in rising range h ∙ omega (arith, h)
    by_test false e = let h : range.right < range.left = grind (arith, nat_tests, e) in falling range h ∙ omega (arith, h)

pub rising_bit : (range : Range) (i : ℕ) → range.left ≤ range.right → i < range.right - range.left + 1 → get_or (bits_from range) i 0 ≡ range.left + i
rising_bit range i h l =
    let e : nat_le range.left range.right ≡ true = grind (arith, nat_tests, h) in
    rw e (get_or-range_with_len range.left (range.right - range.left + 1) i 0 l)

pub falling_bit : (range : Range) (i : ℕ) → range.right < range.left → i < range.left - range.right + 1 → get_or (bits_from range) i 0 ≡ range.left - i
falling_bit range i h l =
    let e : nat_le range.left range.right ≡ false = grind (arith, nat_tests, h) in
    rw e (down range.left range.right i l h)
  where
    down : (l r i : ℕ) → i < l - r + 1 → r < l → get_or (reverse (range_with_len r (l - r + 1))) i 0 ≡ l - i
    down l r i h g =
        let n = length-range_with_len r (l - r + 1) in
        get_or-reverse (range_with_len r (l - r + 1)) i 0 (rw n h)
        ∙ ap (λ m. get_or (range_with_len r (l - r + 1)) (m - 1 - i) 0) n
        ∙ get_or-range_with_len r (l - r + 1) (l - r + 1 - 1 - i) 0 (omega arith)
        ∙ omega (arith, h, g)

-- how many bits stand before a bit of a range
both : (a b : Bool) → (a && b) ≡ true → (a ≡ true) × (b ≡ true)
both true true e = (refl, refl)
both true false e = absurd (cc)
both false b e = absurd (cc)

bounds : (range : Range) (bit : ℕ) → is_within range bit ≡ true → (min range.left range.right ≤ bit) × (bit ≤ max range.left range.right)
bounds range bit t =
    let b = both (nat_le (min range.left range.right) bit) (nat_le bit (max range.left range.right)) t in
    let low : nat_le (min range.left range.right) bit ≡ true = b.0 in
    let high : nat_le bit (max range.left range.right) ≡ true = b.1 in
    (grind (arith, nat_tests, low), grind (arith, nat_tests, high))

pub bit_place : (range : Range) (bit place : ℕ) → is_within range bit ≡ true → place ≡ (range.left - bit) + (bit - range.left)
    → (place < length (bits_from range)) × (get_or (bits_from range) place 0 ≡ bit)
bit_place range bit place t e = by_test (nat_le range.left range.right) refl
  where
    b : (min range.left range.right ≤ bit) × (bit ≤ max range.left range.right)
    b = bounds range bit t

    low : min range.left range.right ≤ bit
    low = b.0

    high : bit ≤ max range.left range.right
    high = b.1

    by_test : (x : Bool) → nat_le range.left range.right ≡ x → (place < length (bits_from range)) × (get_or (bits_from range) place 0 ≡ bit)
    by_test true f =
        let h : range.left ≤ range.right = grind (arith, nat_tests, f) in
        let n = rising range h in
        let within : place < range.right - range.left + 1 = omega (arith, e, low, high, h) in
        (omega (arith, n, within), rising_bit range place h within ∙ omega (arith, e, low, high, h))
    by_test false f =
        let h : range.right < range.left = grind (arith, nat_tests, f) in
        let n = falling range h in
        let within : place < range.left - range.right + 1 = omega (arith, e, low, high, h) in
        (omega (arith, n, within), falling_bit range place h within ∙ omega (arith, e, low, high, h))

-- ---- the bits of an identifier

pub one_net : (range : Option Range) (at : ℕ) → range ≡ None → at < length (bits_of range) → slice_get (bits_of range) at ≡ Some None
one_net None at e l = ap (slice_get {X = Option ℕ} (None ∷ [])) (let f : at ≡ 0 = omega (arith, l) in f)
one_net (Some r) at e l = absurd (cc)

pub one_bit_at : (r : Range) (at : ℕ) → at < length (bits_of (Some r)) → slice_get (bits_of (Some r)) at ≡ Some (Some (get_or (bits_from r) at 0))
one_bit_at r at l =
    slice_get-map Some (bits_from r) at
    ∙ ap (option_map Some) (slice_get-get_or (bits_from r) at 0 (omega (arith, l, length-map (bits_from r) Some)))

-- ---- bits and their places

-- a bit of a range is below what both bounds are below
pub bit_below : (range : Range) (place most : ℕ) → range.left < most → range.right < most → place < length (bits_from range) → get_or (bits_from range) place 0 < most
bit_below range place most l r within = by_test (nat_le range.left range.right) refl
  where
    by_test : (b : Bool) → nat_le range.left range.right ≡ b → get_or (bits_from range) place 0 < most
    by_test true e =
        let h : range.left ≤ range.right = grind (arith, nat_tests, e) in
        let n = rising range h in
        omega (arith, n, within, rising_bit range place h (omega (arith, n, within)), l, r)
    by_test false e =
        let h : range.right < range.left = grind (arith, nat_tests, e) in
        let n = falling range h in
        omega (arith, n, within, falling_bit range place h (omega (arith, n, within)), l, r)

-- a bit stands at one place of a range
pub place_of_bit : (range : Range) (place bit : ℕ) → place < length (bits_from range) → get_or (bits_from range) place 0 ≡ bit
    → place ≡ (range.left - bit) + (bit - range.left)
place_of_bit range place bit within is = by_test (nat_le range.left range.right) refl
  where
    by_test : (b : Bool) → nat_le range.left range.right ≡ b → place ≡ (range.left - bit) + (bit - range.left)
    by_test true e =
        let h : range.left ≤ range.right = grind (arith, nat_tests, e) in
        let n = rising range h in
        omega (arith, n, within, sym (rising_bit range place h (omega (arith, n, within))) ∙ is, h)
    by_test false e =
        let h : range.right < range.left = grind (arith, nat_tests, e) in
        let n = falling range h in
        omega (arith, n, within, sym (falling_bit range place h (omega (arith, n, within))) ∙ is, h)

-- a bit that stands in a range lies in it
pub bit_inside_range : (range : Range) (place bit : ℕ) → place < length (bits_from range) → get_or (bits_from range) place 0 ≡ bit → is_within range bit ≡ true
bit_inside_range range place bit within is = by_test (nat_le range.left range.right) refl
  where
    inside : min range.left range.right ≤ bit → bit ≤ max range.left range.right → is_within range bit ≡ true
    inside low high =
        let a : nat_le (min range.left range.right) bit ≡ true = grind (arith, nat_tests, low) in
        let b : nat_le bit (max range.left range.right) ≡ true = grind (arith, nat_tests, high) in
        rw (a, b) refl

    by_test : (b : Bool) → nat_le range.left range.right ≡ b → is_within range bit ≡ true
    by_test true e =
        let h : range.left ≤ range.right = grind (arith, nat_tests, e) in
        let n = rising range h in
        let f = sym (rising_bit range place h (omega (arith, n, within))) ∙ is in
        inside (omega (arith, n, within, f, h)) (omega (arith, n, within, f, h))
    by_test false e =
        let h : range.right < range.left = grind (arith, nat_tests, e) in
        let n = falling range h in
        let f = sym (falling_bit range place h (omega (arith, n, within))) ∙ is in
        inside (omega (arith, n, within, f, h)) (omega (arith, n, within, f, h))
