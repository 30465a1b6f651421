-- The bits of vectors, and what expressions select of them. Source: IEEE Std 1364-2005, clauses 3.3, 4.3 and 5.2.1.
use Rattle.std.specs.Prelude.{ℕ, Bool, true, false, ◌&&◌, List, [], ◌∷◌, map, Option, Some, None, if◌then◌else◌}
use Rattle.ver_text.specs.declared.kind.Kind.TheVariants.{OpenSquare, Colon}
use Rattle.ver_syntax.specs.declared.row.Row.{Row}
use Rattle.ver_syntax.specs.Grammar.{is}
use Rattle.ver_module.specs.declared.range.Range.{Range}
use Rattle.ver_module.specs.Ranges.{bits_from, bits_of, is_within}
use Rattle.ver_items.specs.declared.bits.Select.{Select}
use Rattle.ver_items.specs.declared.bits.Select.TheVariants.{Whole, Bit, Part}
use Rattle.ver_items.specs.Sections.{number_at}

-- ---- selects

-- the number that the first of some tokens writes, if there is one
abbrev pub first_number : List ℕ → List Row → ℕ
first_number text [] = 0
first_number text (r ∷ rows) = number_at text r

-- what stands after a `[`: a bit, or the bounds of a part
abbrev pub select_in : List ℕ → List Row → Select
select_in text (k ∷ c ∷ rows) =
    if is Colon c.kind then Part
    (record { left = number_at text k; right = first_number text rows }) else Bit (number_at text k)
select_in text _ = Whole

-- what is selected of an identifier before these tokens
abbrev pub select_before : List ℕ → List Row → Select
select_before text [] = Whole
select_before text (r ∷ rows) = if is OpenSquare r.kind then select_in text rows else Whole

-- the bits that are selected of an identifier with this range
abbrev pub selected : Select → Option Range → List (Option ℕ)
selected Whole range = bits_of range
selected (Bit k) range = Some k ∷ []
selected (Part bounds) range = map Some (bits_from bounds)

-- one net is selected of an identifier with this range: a scalar, or a bit by its number alone
abbrev pub is_single : Select → Option Range → Bool
is_single Whole None = true
is_single (Bit k) range = true
is_single _ _ = false

-- what is selected lies in the range of its identifier: a scalar has no bits
abbrev pub fits : Select → Option Range → Bool
fits Whole range = true
fits _ None = false
fits (Bit k) (Some range) = is_within range k
fits (Part bounds) (Some range) = is_within range bounds.left && is_within range bounds.right
