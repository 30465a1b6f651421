-- The segments of the line, one after another, and what their capacitors come to.
use Rattle.std.proofs.Common.{◌≡◌, ℕ, suc, ◌+◌, ◌-◌, ◌*◌, ◌%◌, ◌^◌, ◌<◌, ◌≤◌, List, [], ◌∷◌, ◌++◌, map, sum_by, length, get_or, refl, sym, ap, ◌∙◌, arith}
use Rattle.std.proofs.lemmas.List.FromFn.{map-range_with_len_more, length-range_with_len, length-map-range_with_len, get_or-map-range_with_len}
use Rattle.std.proofs.lemmas.List.Folds.{fold-map}
use Rattle.std.proofs.lemmas.List.Sums.{sum_by-cons}
use Rattle.vg_gen.specs.declared.net.Segment.{Segment}
use Rattle.vg_gen.specs.Random.{next_number, random}
use Rattle.vg_gen.specs.Nets.{up_to, resistance, capacitance, segment, segments, charge, total}

-- the seed is number 0
pub none_drawn : (size : ℕ) → size ≡ random size 0
unfolding random
none_drawn size = refl

-- one number is drawn for a segment's resistor, and the next for its capacitor
first_drawn : (size k x : ℕ) → x ≡ random size (2 * k) → next_number x ≡ random size (2 * (k + 1) - 1)
unfolding random
first_drawn size k x e = let at : 2 * (k + 1) - 1 ≡ suc (2 * k) = omega arith in rw at (ap next_number e)

pub second_drawn : (size k x first second : ℕ) → x ≡ random size (2 * k) → first ≡ next_number x → second ≡ next_number first
    → second ≡ random size (2 * (k + 1))
unfolding random
second_drawn size k x first second e f g =
    let at : 2 * (k + 1) ≡ suc (suc (2 * k)) = omega arith in
    rw at (g ∙ ap next_number (f ∙ ap next_number e))

-- one segment more
pub segments_more : (size k x first second : ℕ) → x ≡ random size (2 * k) → first ≡ next_number x → second ≡ next_number first
    → map (segment size) (up_to k) ++ record { ohms = 100 + first % 100; femtofarads = 10 + second % 10 } ∷ []
    ≡ map (segment size) (up_to (k + 1))
segments_more size k x first second e f g =
    let line = map (segment size) (up_to k) in
    ap (λ n. line ++ record { ohms = 100 + n % 100; femtofarads = 10 + second % 10 } ∷ []) (f ∙ first_drawn size k x e)
    ∙ ap (λ n. line ++ record { ohms = resistance size (k + 1); femtofarads = 10 + n % 10 } ∷ []) (second_drawn size k x first second e f g)
    ∙ sym (map-range_with_len_more (segment size) 1 k (k + 1) (omega arith))

-- a line of this size has so many segments, and this one behind i others
pub length_of_line : (size : ℕ) (line : List Segment) → line ≡ segments size → length line ≡ size
length_of_line size line e = ap length e ∙ length-map-range_with_len (segment size) 1 size

pub segment_at : (size : ℕ) (line : List Segment) (i : ℕ) (d : Segment) → line ≡ segments size → i < size → get_or line i d ≡ segment size (i + 1)
segment_at size line i d e h = ap (λ xs. get_or xs i d) e ∙ get_or-map-range_with_len (segment size) 1 size i (i + 1) d h (omega arith)

-- its capacitors come to its total
pub charge_is : (size : ℕ) → charge (segments size) ≡ total size
charge_is size = fold-map (λ (a : ℕ) (piece : Segment). a + piece.femtofarads) (segment size) 0 (up_to size)

-- each capacitor has 10 to 19 fF
sum_small : (size : ℕ) (is : List ℕ) → sum_by (capacitance size) is ≤ 19 * length is
sum_small size [] = omega arith
sum_small size (i ∷ is) = omega (arith, sum_by-cons (capacitance size) i is, sum_small size is)

sum_large : (size : ℕ) (is : List ℕ) → 10 * length is ≤ sum_by (capacitance size) is
sum_large size [] = omega arith
sum_large size (i ∷ is) = omega (arith, sum_by-cons (capacitance size) i is, sum_large size is)

pub total_large : (size : ℕ) → 10 * size ≤ total size
total_large size = omega (arith, sum_large size (up_to size), length-range_with_len 1 size)

pub total_small : (size : ℕ) → total size ≤ 19 * size
total_small size = omega (arith, sum_small size (up_to size), length-range_with_len 1 size)

-- which fits its type
pub charge_fits : (size : ℕ) (line : List Segment) → size ≤ 4000 → line ≡ segments size → charge line < 2 ^ 32
charge_fits size line few e = omega (arith, ap charge e, charge_is size, total_small size)
