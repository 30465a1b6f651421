-- What a line of a text of widths states by itself.
use Rattle.std.specs.Prelude.{ℕ, nat_le, ◌&&◌, Bool, false, List, [], ◌∷◌, length, codes, Option, Some, None, Result, Ok, Err, if◌then◌else◌}
use Rattle.std.specs.Str.{bytes_eq}
use Rattle.vg_num.specs.Number.{are_digits, value_of}
use Rattle.vg_scan.specs.Lines.{Line}
use Rattle.vg_width.specs.declared.fault.WidthKind.{WidthKind}
use Rattle.vg_width.specs.declared.fault.WidthKind.TheVariants.{Word, Number}
use Rattle.wire_widths.specs.declared.width.Width.{Width}

-- `vgwidth 1`
abbrev pub is_heading : Line → Bool
is_heading (name ∷ version ∷ []) = bytes_eq name (codes "vgwidth") && bytes_eq version (codes "1")
is_heading _ = false

-- the number of a word that is at most so many digits, where it is at most so much
abbrev pub number_in : ℕ → ℕ → List ℕ → Option ℕ
number_in digits most word =
    if nat_le (length word) digits && (are_digits word && nat_le (value_of word) most) then Some (value_of word)
    else None

-- the width of these numbers
abbrev pub width_with : Option ℕ → Option ℕ → Option ℕ → Result Width WidthKind
width_with (Some num) (Some den) (Some add) =
    if nat_le 1 num && nat_le num den then Ok (record { num = num; den = den; add = add }) else Err Number
width_with (Some num) (Some den) None = Err Number
width_with (Some num) None add = Err Number
width_with None den add = Err Number

-- the width of a line `width NUM DEN ADD`
unfoldable pub width_of : Line → Result Width WidthKind
width_of (name ∷ num ∷ den ∷ add ∷ []) =
    if bytes_eq name (codes "width")
    then width_with (number_in 4 1000 num) (number_in 4 1000 den) (number_in 7 1000000 add) else Err Word
width_of _ = Err Word
