-- The bits of identifiers, and what is selected of them.
use Rattle.std.proofs.Common.{◌≡◌, ℕ, ◌+◌, ◌-◌, ◌<◌, ◌≤◌, nat_le, min, max, Bool, true, false, length, get_or, Option, Some, None, refl, sym, ◌∙◌, subst, arith, inl, inr}
use Rattle.std.proofs.lemmas.Bool.{and_parts}
use Rattle.std.proofs.lemmas.Bool.Decides.{nat_tests}
use Rattle.std.proofs.lemmas.Int.{clamps}
use Rattle.std.proofs.lemmas.List.{get_or_default}
use Rattle.std.proofs.lemmas.Option.{same_Some}
use Rattle.ver_module.specs.declared.range.Range.{Range}
use Rattle.ver_items.specs.declared.bits.Select.{Select}
use Rattle.ver_items.specs.declared.bits.Select.TheVariants.{Whole, Bit, Part}
use Rattle.ver_module.specs.Ranges.{bits_from, bits_of, is_within}
use Rattle.ver_items.specs.Bits.{fits, selected}
use Rattle.ver_module.proofs.RangeLemmas.{bit_place, falling, falling_bit, rising, rising_bit}
use Rattle.ver_patch_text_laws.proofs.TextLemmas.{Each}
use Rattle.ver_patch_laws.proofs.RelinkedLemmas.{In}
use Rattle.ver_patch_laws.proofs.ApartLemmas.{Apart, apart_map, apart_places}
use Rattle.ver_patch_laws.proofs.SetLemmas.{contains_in, each_from, each_map, in_contains, in_map, in_mapped}

le_yes : (a b : ℕ) → a ≤ b → nat_le a b ≡ true
le_yes a b h = grind (arith, nat_tests, h)

le_is : (a b : ℕ) → nat_le a b ≡ true → a ≤ b
le_is a b h = grind (arith, nat_tests, h)

less_is : (a b : ℕ) → nat_le a b ≡ false → b < a
less_is a b h = grind (arith, nat_tests, h)

-- ---- the bits of a range

pub within_bounds : (range : Range) (k : ℕ) → is_within range k ≡ true → (min range.left range.right ≤ k) × (k ≤ max range.left range.right)
within_bounds range k t =
    let p = and_parts (nat_le (min range.left range.right) k) (nat_le k (max range.left range.right)) t in
    (le_is (min range.left range.right) k p.0, le_is k (max range.left range.right) p.1)

pub bounds_within : (range : Range) (k : ℕ) → min range.left range.right ≤ k → k ≤ max range.left range.right → is_within range k ≡ true
bounds_within range k low high = rw (le_yes (min range.left range.right) k low) (le_yes k (max range.left range.right) high)

pub has_bit : (range : Range) (k : ℕ) → is_within range k ≡ true → In k (bits_from range)
has_bit range k t =
    let n = (range.left - k) + (k - range.left) in
    let (low, e) = bit_place range k n t refl in
    contains_in (bits_from range) k (n, low, get_or_default (bits_from range) n k 0 low ∙ e)

pub bit_within : (range : Range) (k : ℕ) → In k (bits_from range) → is_within range k ≡ true
bit_within range k i =
    let (n, low, e) = in_contains (bits_from range) k i in by_test n low (get_or_default (bits_from range) n 0 k low ∙ e) (nat_le range.left range.right) refl
  where
    by_test : (n : ℕ) → n < length (bits_from range) → get_or (bits_from range) n 0 ≡ k → (b : Bool) → nat_le range.left range.right ≡ b → is_within range k ≡ true
    by_test n low e true t =
        let up : range.left ≤ range.right = le_is range.left range.right t in
        let count = rising range up in
        let at : n < range.right - range.left + 1 = omega (arith, low, count) in
        let is : range.left + n ≡ k = sym (rising_bit range n up at) ∙ e in
        bounds_within range k (omega (arith, clamps, is, up)) (omega (arith, clamps, is, up, at))
    by_test n low e false t =
        let down : range.right < range.left = less_is range.left range.right t in
        let count = falling range down in
        let at : n < range.left - range.right + 1 = omega (arith, low, count) in
        let is : range.left - n ≡ k = sym (falling_bit range n down at) ∙ e in
        bounds_within range k (omega (arith, clamps, is, down, at)) (omega (arith, clamps, is, down))

places_apart : (range : Range) (i j : ℕ) → i < j → j < length (bits_from range) → get_or (bits_from range) i 0 ≡ get_or (bits_from range) j 0 → ⊥
places_apart range i j less low e = by_test (nat_le range.left range.right) refl
  where
    by_test : (b : Bool) → nat_le range.left range.right ≡ b → ⊥
    by_test true t =
        let up : range.left ≤ range.right = le_is range.left range.right t in
        let count = rising range up in
        let at : j < range.right - range.left + 1 = omega (arith, low, count) in
        let is : range.left + i ≡ range.left + j = sym (rising_bit range i up (omega (arith, at, less))) ∙ e ∙ rising_bit range j up at in
        omega (arith, is, less)
    by_test false t =
        let down : range.right < range.left = less_is range.left range.right t in
        let count = falling range down in
        let at : j < range.left - range.right + 1 = omega (arith, low, count) in
        let is : range.left - i ≡ range.left - j = sym (falling_bit range i down (omega (arith, at, less))) ∙ e ∙ falling_bit range j down at in
        omega (arith, is, less, at, down)

pub apart_bits : (range : Option Range) → Apart (bits_of range)
apart_bits None = (λ i. i, tt)
apart_bits (Some range) =
    apart_map Some (bits_from range) (apart_places (bits_from range) 0 (places_apart range)) (λ x y i j e. same_Some x y e)

-- ---- selects

-- what is selected of an identifier that has it is among its bits
pub all_selected : (select : Select) (range : Option Range) → fits select range ≡ true → Each (λ b. In b (bits_of range)) (selected select range)
all_selected Whole range t = each_from (λ b. In b (bits_of range)) (bits_of range) (λ b i. i)
all_selected (Bit k) None t = absurd (cc)
all_selected (Part part) None t = absurd (cc)
all_selected (Bit k) (Some range) t = (in_map Some (bits_from range) k (has_bit range k t), tt)
all_selected (Part part) (Some range) t =
    let ends = and_parts (is_within range part.left) (is_within range part.right) t in
    let left = within_bounds range part.left ends.0 in
    let right = within_bounds range part.right ends.1 in
    let (left_low, left_high) = left in
    let (right_low, right_high) = right in
    each_map (λ b. In b (bits_of (Some range))) Some (bits_from part)
    (each_from (λ k. In (Some k) (bits_of (Some range))) (bits_from part)
    (λ k i. let (low, high) = within_bounds part k (bit_within part k i) in
    in_map Some (bits_from range) k (has_bit range k (bounds_within range k (omega (arith, clamps, low, left_low, right_low)) (omega (arith, clamps, high, left_high, right_high))))))

-- a net of an identifier is selected of it
pub bit_fits : (bit : ℕ) (range : Option Range) → In (Some bit) (bits_of range) → fits (Bit bit) range ≡ true
bit_fits bit None (inl e) = absurd (cc)
bit_fits bit None (inr i) = absurd i
bit_fits bit (Some range) i =
    let (k, j, e) = in_mapped Some (bits_from range) (Some bit) i in bit_within range bit (subst (λ n. In n (bits_from range)) (sym (same_Some bit k e)) j)

pub none_fits : (range : Option Range) → In None (bits_of range) → range ≡ None
none_fits None i = refl
none_fits (Some range) i = let (k, j, e) = in_mapped Some (bits_from range) None i in absurd (cc)
