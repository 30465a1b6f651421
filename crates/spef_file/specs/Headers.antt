-- The lines of a header, and what the functions that read one say that each makes of the header so far.
use Rattle.std.specs.Prelude.{ℕ, ◌==◌, ◌&&◌, ◌||◌, not, nat_lt, ◌≤◌, Bool, List, [], ◌∷◌, length, slice_index_or, if◌then◌else◌, codes, Option, Some, None, Result, Ok, Err}
use Rattle.std.specs.Str.{bytes_eq}
use Rattle.vg_scan.specs.Lines.{Line}
use Rattle.vg_scan.specs.declared.chars.Chars.{Chars}
use Rattle.spef_file.specs.declared.fault.SpefKind.{SpefKind}
use Rattle.spef_file.specs.declared.fault.SpefKind.TheVariants.{Header, Unit as UnitKind}
use Rattle.spef_file.specs.declared.heading.Heading.{Heading}
use Rattle.spef_file.specs.HeaderChars.{divider_in, delimiter_in, bus_in}
use Rattle.spef_file.specs.Units.{unit_places}
use Rattle.spef_file.specs.Words.{first_word, has_words, is_quoted}

-- the first words of the header's lines, in their order
abbrev pub header_words : List (List ℕ)
header_words =
    codes "*SPEF" ∷ codes "*DESIGN" ∷ codes "*DATE" ∷ codes "*VENDOR" ∷ codes "*PROGRAM" ∷ codes "*VERSION" ∷ codes "*DESIGN_FLOW"
    ∷ codes "*DIVIDER" ∷ codes "*DELIMITER" ∷ codes "*BUS_DELIMITER" ∷ codes "*T_UNIT" ∷ codes "*C_UNIT" ∷ codes "*R_UNIT" ∷ codes "*L_UNIT" ∷ []

unfoldable pub is_header_word : ℕ → List ℕ → Bool
is_header_word n word = bytes_eq word (slice_index_or header_words n [])

abbrev pub with_chars : Heading → Option Chars → Result Heading SpefKind
with_chars heading (Some chars) = Ok (record heading { chars = chars })
with_chars heading None = Err Header

abbrev pub divider_line : Heading → Line → Result Heading SpefKind
divider_line heading line = with_chars heading (divider_in heading.chars line)

abbrev pub delimiter_line : Heading → Line → Result Heading SpefKind
delimiter_line heading line = with_chars heading (delimiter_in heading.chars line)

abbrev pub bus_line : Heading → Line → Result Heading SpefKind
bus_line heading line = with_chars heading (bus_in heading.chars line)

abbrev pub with_c_places : Heading → Option ℕ → Result Heading SpefKind
with_c_places heading (Some places) = Ok (record heading { c_places = places })
with_c_places heading None = Err UnitKind

abbrev pub with_r_places : Heading → Option ℕ → Result Heading SpefKind
with_r_places heading (Some places) = Ok (record heading { r_places = places })
with_r_places heading None = Err UnitKind

-- what a line makes of the header whose first word is right, or its fault
abbrev pub value_line : ℕ → Heading → Line → Result Heading SpefKind
value_line n heading line =
    if n == 7 then divider_line heading line
    else (if n == 8 then delimiter_line heading line
    else (if n == 9 then bus_line heading line
    else (if n == 11 then with_c_places heading (unit_places (codes "FF") (codes "PF") line)
    else (if n == 12 then with_r_places heading (unit_places (codes "OHM") (codes "KOHM") line)
    else Ok heading))))

-- what the header line at place n, from 0, makes of the header, or its fault
unfoldable pub header_line : ℕ → Heading → Line → Result Heading SpefKind
header_line n heading line =
    if is_header_word n (first_word line) && nat_lt 1 (length line) then value_line n heading line else Err Header

-- a line that says nothing of the header after n header lines: it has no words, or goes on with a text
abbrev pub is_idle : ℕ → Line → Bool
is_idle n line = not (has_words line) || (nat_lt 0 n && is_quoted line)

-- the places are few
abbrev pub IsSmall : Heading → Type 0
IsSmall heading = (heading.c_places ≤ 9) × (heading.r_places ≤ 9)
