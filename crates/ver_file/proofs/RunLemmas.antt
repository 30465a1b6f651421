-- The bits of a part of a vector are nets that follow one another.
use Rattle.std.proofs.Common.{◌≡◌, ℕ, ◌+◌, ◌-◌, ◌<◌, ◌≤◌, nat_le, true, false, Bool, length, map, get_or, Option, Some, None, refl, sym, ap, ◌∙◌, arith}
use Rattle.std.specs.Prelude.{slice_get}
use Rattle.std.proofs.lemmas.Bool.Decides.{nat_tests}
use Rattle.std.proofs.lemmas.Grind.{same_number_lists}
use Rattle.std.proofs.lemmas.List.{get_or-map, length-map}
use Rattle.ver_module.specs.declared.range.Range.{Range}
use Rattle.ver_module.specs.Ranges.{bits_from, bits_of, is_within}
use Rattle.ver_module.proofs.RangeLemmas.{bit_place, falling, falling_bit, one_bit_at, rising, rising_bit}
use Rattle.ver_file.proofs.LinkLemmas.{all_within}

-- how far a bit stands from the left bound of a vector
abbrev from_left : Range → ℕ → ℕ
from_left whole bit = (whole.left - bit) + (bit - whole.left)

-- the bit of this number of a range, whichever way it goes
up : (range : Range) (i : ℕ) → range.left ≤ range.right → i < length (bits_from range) → (get_or (bits_from range) i 0 ≡ range.left + i) × (range.left + i ≤ range.right)
up range i h l = let n = rising range h in (rising_bit range i h (omega (arith, l, n)), omega (arith, l, n, h))

down : (range : Range) (i : ℕ) → range.right ≤ range.left → i < length (bits_from range) → (get_or (bits_from range) i 0 ≡ range.left - i) × (range.right + i ≤ range.left)
down range i h l = by_test (nat_le range.left range.right) refl
  where
    by_test : (b : Bool) → nat_le range.left range.right ≡ b → (get_or (bits_from range) i 0 ≡ range.left - i) × (range.right + i ≤ range.left)
    by_test true e =
        let less : range.left ≤ range.right = grind (arith, nat_tests, e) in
        let n = rising range less in
        (rising_bit range i less (omega (arith, l, n)) ∙ omega (arith, l, n, h, less), omega (arith, l, n, h, less))
    by_test false e =
        let more : range.right < range.left = grind (arith, nat_tests, e) in
        let n = falling range more in
        (falling_bit range i more (omega (arith, l, n)), omega (arith, l, n, more))

count_up : (range : Range) → range.left ≤ range.right → length (bits_from range) ≡ range.right - range.left + 1
count_up range h = rising range h

count_down : (range : Range) → range.right ≤ range.left → length (bits_from range) ≡ range.left - range.right + 1
count_down range h = by_test (nat_le range.left range.right) refl
  where
    by_test : (b : Bool) → nat_le range.left range.right ≡ b → length (bits_from range) ≡ range.left - range.right + 1
    by_test true e = let less : range.left ≤ range.right = grind (arith, nat_tests, e) in rising range less ∙ omega (arith, h, less)
    by_test false e = let more : range.right < range.left = grind (arith, nat_tests, e) in falling range more

-- ---- a part as a run

module _ (whole part run : Range) (first : ℕ) (left : run.left ≡ first + from_left whole part.left) (right : run.right ≡ first + from_left whole part.right)
    (is_left : is_within whole part.left ≡ true) (is_right : is_within whole part.right ≡ true) where
  place_left : get_or (bits_from whole) (from_left whole part.left) 0 ≡ part.left
  place_left = (bit_place whole part.left (from_left whole part.left) is_left refl).1

  -- the bounds stand on one side of the left bound of the vector
  rises : whole.left ≤ whole.right → (whole.left ≤ part.left) × (whole.left ≤ part.right)
  rises h = (low whole.left part.left h is_left, low whole.left part.right h is_right)
    where
      low : (l k : ℕ) → whole.left ≤ whole.right → is_within whole k ≡ true → whole.left ≤ k
      low l k g t = let p = bit_place whole k (from_left whole k) t refl in let u = up whole (from_left whole k) g p.0 in omega (arith, p.1, u.0)

  falls : whole.right < whole.left → (part.left ≤ whole.left) × (part.right ≤ whole.left)
  falls h = (high part.left is_left, high part.right is_right)
    where
      high : (k : ℕ) → is_within whole k ≡ true → k ≤ whole.left
      high k t = let p = bit_place whole k (from_left whole k) t refl in let d = down whole (from_left whole k) (omega (arith, h)) p.0 in omega (arith, p.1, d.0)

  pub run_count : length (bits_from run) ≡ length (bits_from part)
  run_count = by_whole (nat_le whole.left whole.right) (nat_le part.left part.right) refl refl
    where
      by_whole : (a b : Bool) → nat_le whole.left whole.right ≡ a → nat_le part.left part.right ≡ b → length (bits_from run) ≡ length (bits_from part)
      by_whole true true e f =
          let h : whole.left ≤ whole.right = grind (arith, nat_tests, e) in
          let g : part.left ≤ part.right = grind (arith, nat_tests, f) in
          let r = rises h in
          omega (arith, count_up run (omega (arith, left, right, r.0, r.1, g)), count_up part g, left, right, r.0, r.1, g)
      by_whole true false e f =
          let h : whole.left ≤ whole.right = grind (arith, nat_tests, e) in
          let g : part.right < part.left = grind (arith, nat_tests, f) in
          let r = rises h in
          omega (arith, count_down run (omega (arith, left, right, r.0, r.1, g)), count_down part (omega (arith, g)), left, right, r.0, r.1, g)
      by_whole false true e f =
          let h : whole.right < whole.left = grind (arith, nat_tests, e) in
          let g : part.left ≤ part.right = grind (arith, nat_tests, f) in
          let r = falls h in
          omega (arith, count_down run (omega (arith, left, right, r.0, r.1, g)), count_up part g, left, right, r.0, r.1, g)
      by_whole false false e f =
          let h : whole.right < whole.left = grind (arith, nat_tests, e) in
          let g : part.right < part.left = grind (arith, nat_tests, f) in
          let r = falls h in
          omega (arith, count_up run (omega (arith, left, right, r.0, r.1, g)), count_down part (omega (arith, g)), left, right, r.0, r.1, g)

  run_bit : (i : ℕ) → i < length (bits_from part) → get_or (bits_from run) i 0 ≡ first + from_left whole (get_or (bits_from part) i 0)
  run_bit i l = by_whole (nat_le whole.left whole.right) (nat_le part.left part.right) refl refl
    where
      m : i < length (bits_from run)
      m = omega (arith, l, run_count)

      by_whole : (a b : Bool) → nat_le whole.left whole.right ≡ a → nat_le part.left part.right ≡ b
          → get_or (bits_from run) i 0 ≡ first + from_left whole (get_or (bits_from part) i 0)
      by_whole true true e f =
          let h : whole.left ≤ whole.right = grind (arith, nat_tests, e) in
          let g : part.left ≤ part.right = grind (arith, nat_tests, f) in
          let r = rises h in
          let u = up run i (omega (arith, left, right, r.0, r.1, g)) m in
          let v = up part i g l in
          omega (arith, u.0, v.0, v.1, left, r.0)
      by_whole true false e f =
          let h : whole.left ≤ whole.right = grind (arith, nat_tests, e) in
          let g : part.right < part.left = grind (arith, nat_tests, f) in
          let r = rises h in
          let u = down run i (omega (arith, left, right, r.0, r.1, g)) m in
          let v = down part i (omega (arith, g)) l in
          omega (arith, u.0, v.0, v.1, left, r.0, r.1)
      by_whole false true e f =
          let h : whole.right < whole.left = grind (arith, nat_tests, e) in
          let g : part.left ≤ part.right = grind (arith, nat_tests, f) in
          let r = falls h in
          let u = down run i (omega (arith, left, right, r.0, r.1, g)) m in
          let v = up part i g l in
          omega (arith, u.0, v.0, v.1, left, r.0, r.1)
      by_whole false false e f =
          let h : whole.right < whole.left = grind (arith, nat_tests, e) in
          let g : part.right < part.left = grind (arith, nat_tests, f) in
          let r = falls h in
          let u = up run i (omega (arith, left, right, r.0, r.1, g)) m in
          let v = down part i (omega (arith, g)) l in
          omega (arith, u.0, v.0, v.1, left, r.0)

  -- the numbers of a part's bits are those of the run
  pub run_is : (number : Option ℕ → ℕ) → ((bit at : ℕ) → slice_get (bits_of (Some whole)) at ≡ Some (Some bit) → first + at ≡ number (Some bit))
      → bits_from run ≡ map number (map Some (bits_from part))
  run_is number own =
      same_number_lists (bits_from run) (map number (map Some (bits_from part)))
      (run_count ∙ sym (length-map (bits_from part) Some) ∙ sym (length-map (map Some (bits_from part)) number))
      (λ i l.
      let low : i < length (bits_from part) = omega (arith, l, run_count) in
      let low_some : i < length (map Some (bits_from part)) = omega (arith, low, length-map (bits_from part) Some) in
      let bit = get_or (bits_from part) i 0 in
      let inside : is_within whole bit ≡ true = all_within whole part is_left is_right i 0 low in
      let p = bit_place whole bit (from_left whole bit) inside refl in
      let there : slice_get (bits_of (Some whole)) (from_left whole bit) ≡ Some (Some bit) =
      one_bit_at whole (from_left whole bit) (omega (arith, p.0, length-map (bits_from whole) Some)) ∙ ap (λ k. Some (Some k)) p.1
      in
      run_bit i low ∙ own bit (from_left whole bit) there
      ∙ sym (get_or-map number (map Some (bits_from part)) i None 0 low_some ∙ ap number (get_or-map Some (bits_from part) i 0 None low)))
