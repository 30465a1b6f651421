-- Comments that were taken out of a text.
use Rattle.std.specs.Prelude.{◌≡◌, ℕ, ◌+◌, List, length}
use Rattle.std.specs.List.{All}
use Rattle.vg_patch.specs.Edits.{Edit, Rise, patched}

-- a comment is as long as the part that it is to stand in
abbrev pub IsAsLong : Edit → Type 0
IsAsLong comment = comment.from + length comment.text ≡ comment.to

-- the parts of comments stand in a text, one after another, and each comment is as long as its part
pub record FitIn (comments : List Edit) (text : List ℕ) : Type 0 where
  pub rise : Rise 0 (length text) comments
  pub long : All IsAsLong comments

-- a clear text, with comments back in place, is the text that they were taken out of
pub record Restores (comments : List Edit) (clear text : List ℕ) : Type 0 where
  pub fit : FitIn comments clear
  pub is : patched clear comments ≡ text
