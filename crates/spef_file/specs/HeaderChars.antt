-- The bytes that a header gives a meaning.
use Rattle.std.specs.Prelude.{◌≡◌, ℕ, Bool, true, false, List, [], ◌∷◌, Option, Some, None, option_and_then, refl}
use Rattle.vg_scan.specs.Lines.{Line}
use Rattle.vg_scan.specs.Separators.{is_separator, is_bus_pair}
use Rattle.vg_scan.specs.declared.chars.Chars.{Chars}

-- the usual bytes: `/`, `:`, `[` and `]`
abbrev pub USUAL : Chars
USUAL =
    record { divider = 47; delimiter = 58; bus_left = 91; bus_right = 93; divides = refl; delimits = refl; encloses = refl }

abbrev pub divided : (chars : Chars) (b : ℕ) (t : Bool) → is_separator b ≡ t → Option Chars
divided chars b true e = Some (record chars { divider = b; divides = e })
divided chars b false e = None

abbrev pub delimited : (chars : Chars) (b : ℕ) (t : Bool) → is_separator b ≡ t → Option Chars
delimited chars b true e = Some (record chars { delimiter = b; delimits = e })
delimited chars b false e = None

abbrev pub enclosed : (chars : Chars) (l r : ℕ) (t : Bool) → is_bus_pair l r ≡ t → Option Chars
enclosed chars l r true e = Some (record chars { bus_left = l; bus_right = r; encloses = e })
enclosed chars l r false e = None

-- the bytes with another divider, delimiter or pair of bus delimiters, if it may be one
unfoldable pub with_divider : Chars → ℕ → Option Chars
with_divider chars b = divided chars b (is_separator b) refl

unfoldable pub with_delimiter : Chars → ℕ → Option Chars
with_delimiter chars b = delimited chars b (is_separator b) refl

unfoldable pub with_bus : Chars → ℕ × ℕ → Option Chars
with_bus chars pair = enclosed chars pair.0 pair.1 (is_bus_pair pair.0 pair.1) refl

-- the byte of a word of one byte
abbrev pub lone : List ℕ → Option ℕ
lone (b ∷ []) = Some b
lone _ = None

-- the bytes of a word of two bytes
abbrev pub two : List ℕ → Option (ℕ × ℕ)
two (l ∷ r ∷ []) = Some (l, r)
two _ = None

abbrev pub both : Option ℕ → Option ℕ → Option (ℕ × ℕ)
both (Some l) (Some r) = Some (l, r)
both _ _ = None

-- the pair of a line's further words, with blanks between them or not
abbrev pub bus_bytes : Line → Option (ℕ × ℕ)
bus_bytes (_ ∷ word ∷ []) = two word
bus_bytes (_ ∷ left ∷ right ∷ []) = both (lone left) (lone right)
bus_bytes _ = None

-- the bytes with that which a line `WORD BYTE` gives, as the divider or the delimiter
-- a line with a further word gives none: it is a fault of the header
abbrev pub divider_in : Chars → Line → Option Chars
divider_in chars (_ ∷ word ∷ []) = option_and_then (with_divider chars) (lone word)
divider_in chars _ = None

abbrev pub delimiter_in : Chars → Line → Option Chars
delimiter_in chars (_ ∷ word ∷ []) = option_and_then (with_delimiter chars) (lone word)
delimiter_in chars _ = None

-- the bytes with the bus delimiters that a line gives, if it has no further word
abbrev pub bus_in : Chars → Line → Option Chars
bus_in chars line = option_and_then (with_bus chars) (bus_bytes line)
