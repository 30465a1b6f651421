-- The first piece of a text of either kind, as the code finds it: for the functions between.
use Rattle.std.specs.Prelude.{ℕ, ◌==◌, ◌||◌, Bool, false, List, [], ◌∷◌}
use Rattle.vg_scan.specs.declared.comments.Comments.{Comments}
use Rattle.vg_scan.specs.declared.comments.Comments.TheVariants.{Spef, Liberty}
use Rattle.vg_scan.specs.Blocks.{is_block_mark}
use Rattle.vg_scan.specs.Comments.{is_line_mark, piece_length}
use Rattle.vg_scan.specs.LibertyComments.{liberty_piece_length}

-- a byte that may begin a comment, a string or an escape: any other byte is a piece of its own
abbrev pub is_mark : ℕ → Bool
is_mark b = (b == 92) || (b == 34) || (b == 47)

-- a byte that may begin the end of a comment
abbrev pub is_star : ℕ → Bool
is_star b = b == 42

-- how many bytes the first piece has, where the text has so many
abbrev pub first_length : Comments → List ℕ → ℕ
first_length Spef text = piece_length text
first_length Liberty text = liberty_piece_length text

-- these two bytes begin a comment, where a piece begins with them
abbrev pub is_comment_mark : Comments → ℕ → ℕ → Bool
is_comment_mark Spef b c = is_line_mark b c || is_block_mark b c
is_comment_mark Liberty b c = is_block_mark b c

-- the first piece is a comment
abbrev pub begins_comment : Comments → List ℕ → Bool
begins_comment kind [] = false
begins_comment kind (b ∷ []) = false
begins_comment kind (b ∷ c ∷ bs) = is_comment_mark kind b c
