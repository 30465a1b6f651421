-- The header of a file: its lines, and what they give.
use Rattle.std.specs.Prelude.{ℕ, not, nat_lt, Bool, List, [], ◌∷◌, length, slice_index_or, codes, unwrap_or, Option}
use Rattle.std.specs.List.{filter}
use Rattle.vg_scan.specs.Lines.{Line}
use Rattle.vg_scan.specs.declared.chars.Chars.{Chars}
use Rattle.spef_file.specs.Words.{has_words, is_quoted}
use Rattle.spef_file.specs.HeaderChars.{USUAL, divider_in, delimiter_in, bus_in}
use Rattle.spef_file.specs.Units.{unit_places}

-- lines with words, without those, after the first, in which a text goes on
abbrev pub without_texts : List Line → List Line
without_texts [] = []
without_texts (first ∷ later) = first ∷ filter (λ line. not (is_quoted line)) later

-- the lines that may be header lines
unfoldable pub spoken : List Line → List Line
spoken lines = without_texts (filter has_words lines)

-- the header line of this number, from 0; it has no words where it has not come
abbrev pub header_at : List Line → ℕ → Line
header_at lines n = slice_index_or (spoken lines) n []

-- the line after these stands in the header
abbrev pub in_header : List Line → Bool
in_header lines = nat_lt (length (spoken lines)) 14

-- the bytes with those which a line gives, if it gives some
abbrev pub given_by : (Chars → Line → Option Chars) → Line → Chars → Chars
given_by give line chars = unwrap_or (give chars line) chars

-- the bytes with those of a divider's, a delimiter's and a bus delimiters' line
abbrev pub chars_by : Line → Line → Line → Chars
chars_by divider delimiter bus =
    given_by bus_in bus (given_by delimiter_in delimiter (given_by divider_in divider USUAL))

-- the bytes that have a meaning in names
unfoldable pub chars_of : List Line → Chars
chars_of lines = chars_by (header_at lines 7) (header_at lines 8) (header_at lines 9)

-- how many decimal places turn a capacitance into attofarads
unfoldable pub c_places_of : List Line → ℕ
c_places_of lines = unwrap_or (unit_places (codes "FF") (codes "PF") (header_at lines 11)) 0

-- how many decimal places turn a resistance into milliohms
unfoldable pub r_places_of : List Line → ℕ
r_places_of lines = unwrap_or (unit_places (codes "OHM") (codes "KOHM") (header_at lines 12)) 0
