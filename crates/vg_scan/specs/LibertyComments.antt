-- Comments in the text of a library, made blank. A text is its pieces, as in SPEF; but only `/*` begins a comment, and
-- a string goes on after a backslash just before its line's end. Source: Liberty User Guide, Synopsys.
use Rattle.std.specs.Prelude.{ℕ, zero, suc, ◌+◌, ◌==◌, ◌&&◌, ◌||◌, not, Bool, false, List, [], ◌∷◌, map, length, take, drop, if◌then◌else◌}
use Rattle.std.specs.List.{flat_map}
use Rattle.vg_scan.specs.Blocks.{is_block_mark, through_block, blanked}
use Rattle.vg_scan.specs.Lines.{is_newline}
use Rattle.vg_scan.specs.Names.{is_backslash, is_quote}

-- a text begins with a newline
abbrev pub begins_newline : List ℕ → Bool
begins_newline [] = false
begins_newline (b ∷ bs) = is_newline b

-- a line's end that comes after this byte is continued: the byte is a backslash, or a carriage return between a
-- backslash and a newline
abbrev pub continues : Bool → ℕ → List ℕ → Bool
continues continued b bs = is_backslash b || (continued && ((b == 13) && begins_newline bs))

-- a byte ends a string, given whether a line's end there is continued
abbrev pub ends_string_in : Bool → ℕ → Bool
ends_string_in continued b = is_quote b || (is_newline b && not continued)

-- how many bytes there are through the end of a string, after its first quote, else to the text's end
unfoldable pub through_string_in : Bool → List ℕ → ℕ
through_string_in continued [] = 0
through_string_in continued (b ∷ bs) =
    if ends_string_in continued b then 1 else suc (through_string_in (continues continued b bs) bs)

-- how many bytes the first piece of a text has: a backslash hides the byte after it
-- the end of a comment is sought after its two opening bytes: `/*/` does not close itself
abbrev pub liberty_piece_length : List ℕ → ℕ
liberty_piece_length [] = 1
liberty_piece_length (b ∷ []) = 1
liberty_piece_length (b ∷ c ∷ bs) =
    if is_backslash b then 2
    else (if is_quote b then 1 + through_string_in false (c ∷ bs)
    else (if is_block_mark b c then 2 + through_block bs else 1))

-- the pieces of a text, so many at most
unfoldable pub some_liberty_pieces : ℕ → List ℕ → List (List ℕ)
some_liberty_pieces zero text = []
some_liberty_pieces (suc n) [] = []
some_liberty_pieces (suc n) (b ∷ bs) =
    take (liberty_piece_length (b ∷ bs)) (b ∷ bs)
    ∷ some_liberty_pieces n (drop (liberty_piece_length (b ∷ bs)) (b ∷ bs))

-- the pieces of a text
unfoldable pub liberty_pieces : List ℕ → List (List ℕ)
liberty_pieces text = some_liberty_pieces (length text) text

-- a piece is a comment by its first two bytes
abbrev pub is_block : List ℕ → Bool
is_block [] = false
is_block (b ∷ []) = false
is_block (b ∷ c ∷ bs) = is_block_mark b c

-- a piece, blank where it is a comment
abbrev pub unblocked : List ℕ → List ℕ
unblocked piece = if is_block piece then map blanked piece else piece

-- a library's text whose comments are blank
unfoldable pub without_liberty_comments : List ℕ → List ℕ
without_liberty_comments text = flat_map unblocked (liberty_pieces text)
