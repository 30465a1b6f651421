-- Lines that go on after a backslash, joined. Source: Liberty User Guide, Synopsys, on statements over several lines.
use Rattle.std.specs.Prelude.{ℕ, zero, suc, ◌+◌, ◌-◌, ◌==◌, nat_lt, Bool, ◌&&◌, ◌||◌, List, [], ◌∷◌, get_or, if◌then◌else◌}

-- a byte stands at a place of a text; the byte is not 0
abbrev pub is_at : List ℕ → ℕ → ℕ → Bool
is_at text at byte = get_or text at 0 == byte

-- a carriage return just before a newline, which belongs to the line's end
abbrev pub is_return_at : List ℕ → ℕ → Bool
is_return_at text at = is_at text at 13 && is_at text (at + 1) 10

-- how many bytes the line's end has that stands at a place; 0 where none does
abbrev pub line_end_length : List ℕ → ℕ → ℕ
line_end_length text at = if is_at text at 10 then 1 else (if is_return_at text at then 2 else 0)

-- how many of a text's first bytes are blank: a backslash just before a line's end, with that end, or a carriage return
-- just before a newline
abbrev pub blank_length : List ℕ → ℕ
blank_length text =
    if is_at text 0 92 && nat_lt 0 (line_end_length text 1) then 1 + line_end_length text 1
    else (if is_return_at text 0 then 1 else 0)

-- a text with spaces in their place, where its first bytes belong to those that began before
unfoldable pub joined_from : ℕ → List ℕ → List ℕ
joined_from skip [] = []
joined_from (suc skip) (b ∷ bs) = 32 ∷ joined_from skip bs
joined_from zero (b ∷ bs) = (if blank_length (b ∷ bs) == 0 then b else 32) ∷ joined_from (blank_length (b ∷ bs) - 1) bs

-- A text whose continued line ends are blank, and each of whose other line ends is a newline alone.
abbrev pub joined : List ℕ → List ℕ
joined text = joined_from 0 text

-- a byte that may begin what is blank
abbrev pub is_mark : ℕ → Bool
is_mark b = (b == 92) || (b == 13)
