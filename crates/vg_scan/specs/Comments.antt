-- Comments, made blank. A text is its pieces, one after another: a hidden byte, a string, a comment, or another byte.
use Rattle.std.specs.Prelude.{◌≡◌, ◌≢◌, ℕ, zero, suc, ◌+◌, ◌==◌, ◌⊎◌, ◌&&◌, ◌||◌, Bool, false, List, [], ◌∷◌, map, length, take, drop, if◌then◌else◌}
use Rattle.std.specs.List.{position_or_len, flat_map}
pub use Rattle.vg_scan.specs.Blocks.{is_block_mark, through_block, blanked}
use Rattle.vg_scan.specs.declared.comments.Comments.{Comments}
use Rattle.vg_scan.specs.declared.comments.Comments.TheVariants.{Spef, Liberty}
use Rattle.vg_scan.specs.LibertyComments.{without_liberty_comments}
use Rattle.vg_scan.specs.Lines.{is_newline}
use Rattle.vg_scan.specs.Names.{is_backslash, is_quote}

-- `//` begins a comment that ends before its line's end
abbrev pub is_line_mark : ℕ → ℕ → Bool
is_line_mark b c = (b == 47) && (c == 47)

-- a string ends with its second quote, or with its line
abbrev pub ends_string : ℕ → Bool
ends_string b = is_quote b || is_newline b

-- how many bytes there are through the end of a string, after its first quote
abbrev pub through_string : List ℕ → ℕ
through_string text = position_or_len ends_string text + 1

-- how many bytes the first piece of a text has, where the text has so many: a backslash hides the byte after it
-- the end of a comment is sought after its two opening bytes: `/*/` does not close itself
abbrev pub piece_length : List ℕ → ℕ
piece_length [] = 1
piece_length (b ∷ []) = 1
piece_length (b ∷ c ∷ bs) =
    if is_backslash b then 2
    else (if is_quote b then 1 + through_string (c ∷ bs)
    else (if is_line_mark b c then 2 + position_or_len is_newline bs
    else (if is_block_mark b c then 2 + through_block bs else 1)))

-- the pieces of a text, so many at most
unfoldable pub some_pieces : ℕ → List ℕ → List (List ℕ)
some_pieces zero text = []
some_pieces (suc n) [] = []
some_pieces (suc n) (b ∷ bs) =
    take (piece_length (b ∷ bs)) (b ∷ bs) ∷ some_pieces n (drop (piece_length (b ∷ bs)) (b ∷ bs))

-- the pieces of a text
unfoldable pub pieces : List ℕ → List (List ℕ)
pieces text = some_pieces (length text) text

-- a piece is a comment by its first two bytes
abbrev pub is_comment : List ℕ → Bool
is_comment [] = false
is_comment (b ∷ []) = false
is_comment (b ∷ c ∷ bs) = is_line_mark b c || is_block_mark b c

-- a piece, blank where it is a comment
abbrev pub uncommented : List ℕ → List ℕ
uncommented piece = if is_comment piece then map blanked piece else piece

-- a text whose comments are blank
unfoldable pub without_comments : Comments → List ℕ → List ℕ
without_comments Spef text = flat_map uncommented (pieces text)
without_comments Liberty text = without_liberty_comments text

-- a byte stays, or it is no newline and becomes a space
abbrev pub StaysOrBlanks : ℕ → ℕ → Type 0
StaysOrBlanks b c = (c ≡ b) ⊎ ((b ≢ 10) × (c ≡ 32))
