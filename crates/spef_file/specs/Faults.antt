-- The faults of a file's lines: for each kind, the lines that have it, given the lines before and after them.
use Rattle.std.specs.Prelude.{ℕ, ◌+◌, ◌==◌, ◌&&◌, ◌||◌, not, nat_lt, Bool, true, false, List, [], ◌∷◌, length, take, drop, slice_index_or, if◌then◌else◌, codes, Option, Some, None, is_some}
use Rattle.std.specs.List.{find}
use Rattle.vg_scan.specs.Lines.{Line}
use Rattle.vg_scan.specs.References.{is_reference}
use Rattle.vg_scan.specs.declared.chars.Chars.{Chars}
use Rattle.spef_file.specs.declared.fault.SpefKind.{SpefKind}
use Rattle.spef_file.specs.declared.fault.SpefKind.TheVariants.{Header, Unit as UnitKind, MapTwice, MapUnknown, NoEnd, Stray, NetTwice, Unsupported, Memory}
use Rattle.spef_file.specs.Words.{first_word, second_word}
use Rattle.spef_file.specs.HeaderChars.{divider_in, delimiter_in, bus_in}
use Rattle.spef_file.specs.Units.{unit_places}
use Rattle.spef_file.specs.Headers.{is_header_word, is_idle}
use Rattle.spef_file.specs.Rows.{map_line, row_index, is_mapped}
use Rattle.spef_file.specs.Nets.{end_at, is_taken}
use Rattle.spef_file.specs.HeaderLines.{spoken, in_header, chars_of}
use Rattle.spef_file.specs.Regions.{is_net_head, is_foreign_head, is_lost, is_row}
use Rattle.spef_file.specs.Statements.{rows_of, nets_of, name_in}

-- there is one, and the test holds of it
abbrev pub is_some_and : {A : Type 0} → (A → Bool) → Option A → Bool
is_some_and test (Some item) = test item
is_some_and test None = false

-- a line after these is the next of the header: it has words, and goes on with no text
abbrev pub is_due : List Line → Line → Bool
is_due before line = in_header before && not (is_idle (length (spoken before)) line)

-- the rule of the divider's, the delimiter's and the bus delimiters' line, which have these numbers
abbrev pub gives_chars : ℕ → Chars → Line → Bool
gives_chars n chars line =
    if n == 7 then is_some (divider_in chars line)
    else (if n == 8 then is_some (delimiter_in chars line)
    else (if n == 9 then is_some (bus_in chars line) else true))

-- the rule of the lines of units, which have these numbers
abbrev pub gives_unit : ℕ → Line → Bool
gives_unit n line =
    if n == 11 then is_some (unit_places (codes "FF") (codes "PF") line)
    else (if n == 12 then is_some (unit_places (codes "OHM") (codes "KOHM") line) else true)

-- the header line of this number begins with its word, has a further one, and keeps the rule of its delimiter
abbrev pub is_header_line : ℕ → Chars → Line → Bool
is_header_line n chars line = is_header_word n (first_word line) && nat_lt 1 (length line) && gives_chars n chars line

abbrev pub is_bad_header : List Line → Line → Bool
is_bad_header before line = is_due before line && not (is_header_line (length (spoken before)) (chars_of before) line)

abbrev pub is_bad_unit : List Line → Line → Bool
is_bad_unit before line = is_due before line && not (gives_unit (length (spoken before)) line)

-- the line's index is that of a row before
abbrev pub is_mapped_twice : List Line → Line → Bool
is_mapped_twice before line = is_row before line && is_some_and (is_mapped (rows_of before)) (row_index line)

-- the name of a net begins with `*`, and is no index with a row before
abbrev pub is_unmapped : List Line → Line → Bool
is_unmapped before line =
    is_net_head before line && is_reference (second_word line) && not (is_some (name_in before line))

-- the next head of a net comes before the end of this one, or there is no end
abbrev pub is_unended : List Line → Line → List Line → Bool
is_unended before line later = is_net_head before line && not (is_some (end_at later))

-- the line stands in no part, is no row of the name map, or is the head of a net without a name
-- a line of another form in the name map, as `*1 a b`, is stray also where its index is that of a row before
abbrev pub is_stray : List Line → Line → Bool
is_stray before line =
    is_lost before line || (is_row before line && not (is_some (map_line (chars_of before) line)))
    || (is_net_head before line && not (is_some (name_in before line)))

-- a net before has this net's name
abbrev pub is_net_twice : List Line → Line → Bool
is_net_twice before line = is_net_head before line && is_some_and (is_taken (nets_of before)) (name_in before line)

-- a line has a fault of this kind, after some lines and before others
abbrev pub breaks : List Line → Line → List Line → SpefKind → Bool
breaks before line later Header = is_bad_header before line
breaks before line later UnitKind = is_bad_unit before line
breaks before line later MapTwice = is_mapped_twice before line
breaks before line later MapUnknown = is_unmapped before line
breaks before line later NoEnd = is_unended before line later
breaks before line later Stray = is_stray before line
breaks before line later NetTwice = is_net_twice before line
breaks before line later Unsupported = is_foreign_head before line
breaks before line later Memory = false

-- the kinds, in their order of two faults of a head the first is told: `NoEnd` where it has no name either,
-- `MapUnknown` where it has no `*END` either
abbrev pub kinds : List SpefKind
kinds = Header ∷ UnitKind ∷ MapTwice ∷ MapUnknown ∷ NoEnd ∷ Stray ∷ NetTwice ∷ Unsupported ∷ []

-- the fault of a line, the first of those that it has
unfoldable pub fault_of : List Line → Line → List Line → Option SpefKind
fault_of before line later = find (breaks before line later) kinds

-- the fault of the line at a place, from 0
abbrev pub fault_at : List Line → ℕ → Option SpefKind
fault_at lines i = fault_of (take i lines) (slice_index_or lines i []) (drop (i + 1) lines)
