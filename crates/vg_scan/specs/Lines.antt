-- The lines of a text, and the words of a line.
use Rattle.std.specs.Prelude.{◌≡◌, ℕ, ◌+◌, ◌-◌, ◌==◌, ◌||◌, ◌<◌, not, nat_le, nat_lt, map, Bool, List, length, take, drop, filter, slice_index}
use Rattle.std.specs.List.{slice_split, count_by}
use Rattle.std.specs.Str.Lines.{lines}

abbrev pub is_blank : ℕ → Bool
is_blank b = (b == 32) || (b == 9)

abbrev pub is_ink : ℕ → Bool
is_ink b = not (is_blank b)

-- a space or a control character
abbrev pub is_low : ℕ → Bool
is_low b = nat_le b 32

abbrev pub is_newline : ℕ → Bool
is_newline b = b == 10

-- the runs of bytes that are not blanks
unfoldable pub words : List ℕ → List (List ℕ)
words line = filter (λ w. nat_lt 0 (length w)) (slice_split is_blank line)

-- the bytes from one place to another
abbrev pub part : List ℕ → ℕ → ℕ → List ℕ
part bytes from to = take (to - from) (drop from bytes)

-- a line, as its words
abbrev pub Line : Type 0
Line = List (List ℕ)

-- the lines of a text, each as its words
-- a carriage return ends a line only before a newline: at the end of a text without one it belongs to the last word
unfoldable pub lines_of : List ℕ → List Line
lines_of text = map words (lines text)

-- one plus the newlines before a place
abbrev pub line_number : List ℕ → ℕ → ℕ
line_number bytes at = count_by is_newline (take at bytes) + 1

-- a line begins at a place inside a text: at its beginning, or after a newline
abbrev pub BeginsLine : List ℕ → ℕ → Type 0
BeginsLine text at = 0 < at → at < length text → slice_index text (at - 1) ≡ 10
