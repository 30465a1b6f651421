-- The next comment of a text.
use Rattle.std.specs.Prelude.{◌≡◌, ℕ, ◌<◌, ◌≤◌, ◌++◌, true, List, map, length, take, drop}
use Rattle.vg_scan.specs.declared.comments.Comments.{Comments}
use Rattle.vg_scan.specs.Comments.{blanked, without_comments}
use Rattle.vg_scan.specs.Lines.{part}
use Rattle.vg_scan.specs.Pieces.{first_length, begins_comment}

-- This part is the text's next comment from a place on. Without its comments the text is the bytes up to this part as
-- they are, then the part made blank, then what comes after it without its comments.
pub record IsNextComment (kind : Comments) (text : List ℕ) (at from to : ℕ) : Type 0 where
  pub after : at ≤ from
  pub some : from < to
  pub within : to ≤ length text
  pub begins : begins_comment kind (drop from text) ≡ true
  pub whole : part text from to ≡ take (first_length kind (drop from text)) (drop from text)
  pub clear : without_comments kind (drop at text)
      ≡ part text at from ++ (map blanked (part text from to) ++ without_comments kind (drop to text))
