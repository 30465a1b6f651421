-- The bits of vectors. Source: IEEE Std 1364-2005, clauses 3.3 and 4.3.
use Rattle.std.specs.Prelude.{ℕ, ◌+◌, ◌-◌, min, max, nat_le, Bool, ◌&&◌, List, [], ◌∷◌, map, reverse, Option, Some, None, if◌then◌else◌}
use Rattle.std.specs.List.{flat_map, range_with_len}
use Rattle.ver_module.specs.declared.range.Range.{Range}

-- the bits from the left bound to the right one
abbrev pub bits_from : Range → List ℕ
bits_from range =
    if nat_le range.left range.right
    then range_with_len range.left (range.right - range.left + 1)
    else reverse (range_with_len range.right (range.left - range.right + 1))

-- the bits of an identifier with this range, or the one net of a scalar
abbrev pub bits_of : Option Range → List (Option ℕ)
bits_of None = None ∷ []
bits_of (Some range) = map Some (bits_from range)

-- a bit lies in a range
abbrev pub is_within : Range → ℕ → Bool
is_within range k = nat_le (min range.left range.right) k && nat_le k (max range.left range.right)

-- the numbers in some ranges, one behind the other
abbrev pub all_in : List Range → List ℕ
all_in ranges = flat_map bits_from ranges
