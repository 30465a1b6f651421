-- The lines of a certificate's text, and their words and numbers.
use Rattle.std.specs.Prelude.{ℕ, ◌^◌, ◌==◌, ◌&&◌, not, cond, Bool, true, false, List, [], map, length, get_or, ℤ, pos, int_le, unsigned_abs, Option, Some, None, Result, Ok, Err}
use Rattle.std.specs.List.{slice_split, list_any}
use Rattle.std.specs.Str.{bytes_eq}
use Rattle.vg_num.specs.Number.{whole_of}
use Rattle.vg_num.specs.declared.fault.NumFault.{NumFault}
use Rattle.vg_num.specs.declared.fault.NumFault.TheVariants.{Form, Negative, TooLarge}
use Rattle.vg_scan.specs.Lines.{is_blank, is_newline}

-- the parts of a text that its newlines end, and what stands after the last newline
unfoldable pub parts : List ℕ → List (List ℕ)
parts text = slice_split is_newline text

-- a line, as its words
abbrev pub Line : Type 0
Line = List (List ℕ)

abbrev pub is_empty : List ℕ → Bool
is_empty word = length word == 0

-- the words of some fields: none where a field is empty
abbrev pub whole_fields : List (List ℕ) → Line
whole_fields fields = cond (list_any is_empty fields) [] fields

-- the words of a line, with one blank between; where a blank stands first, last or beside another one, it has none
unfoldable pub words : List ℕ → Line
words line = whole_fields (slice_split is_blank line)

unfoldable pub lines : List ℕ → List Line
lines text = map words (parts text)

abbrev pub line_at : List Line → ℕ → Line
line_at ls i = get_or ls i []

-- the word at a place, from 0
abbrev pub word : Line → ℕ → List ℕ
word line k = get_or line k []

-- a line of so many words, of which the first is this one
abbrev pub begins_with : List ℕ → ℕ → Line → Bool
begins_with first n line = (length line == n) && bytes_eq (word line 0) first

-- the number that was read, or 0
abbrev pub or_zero : Result ℤ NumFault → ℤ
or_zero (Ok z) = z
or_zero (Err _) = pos 0

abbrev pub number_in : List ℕ → ℤ
number_in word = or_zero (whole_of word)

abbrev pub fault_in : Result ℤ NumFault → Option NumFault
fault_in (Ok _) = None
fault_in (Err fault) = Some fault

-- why a word is no number
abbrev pub number_fault : List ℕ → Option NumFault
number_fault word = fault_in (whole_of word)

-- a number from 0 to a limit
abbrev pub is_up_to : ℕ → ℤ → Bool
is_up_to most z = int_le (pos 0) z && int_le z (pos most)

-- a number that was read is no count of lines; one that is too large to be read is none
abbrev pub is_no_count : Result ℤ NumFault → Bool
is_no_count (Ok z) = not (is_up_to (2 ^ 28) z)
is_no_count (Err TooLarge) = true
is_no_count (Err Negative) = false
is_no_count (Err Form) = false

-- the lines that a count announces
abbrev pub count_in : List ℕ → ℕ
count_in word = unsigned_abs (number_in word)
