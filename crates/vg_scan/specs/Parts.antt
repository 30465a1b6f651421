-- The comments of a part of a text.
use Rattle.std.specs.Prelude.{◌≡◌, ℕ, ◌-◌, ◌<◌, ◌≤◌, true, List, length, slice_index}
use Rattle.vg_scan.specs.Lines.{is_blank, part, BeginsLine}
use Rattle.vg_scan.specs.Printed.{is_solid}
use Rattle.vg_scan.specs.Comments.{without_comments}
use Rattle.vg_scan.specs.declared.comments.Comments.TheVariants.{Spef}

-- a byte that is no blank and no newline, with only blanks before it on its line
pub record IsFirstSolid (text : List ℕ) (at : ℕ) : Type 0 where
  pub line : ℕ
  pub begins : BeginsLine text line
  pub order : line ≤ at
  pub blank : (k : ℕ) → line ≤ k → k < at → is_blank (slice_index text k) ≡ true
  pub solid : is_solid (slice_index text at) ≡ true

-- a part of a text, from the first word of a line to the end of a word, has the comments that it has in the text
abbrev pub PartsKeepComments : Type 0
PartsKeepComments =
    (text : List ℕ) (from to : ℕ) → IsFirstSolid (without_comments Spef text) from → from < to → to ≤ length text
    → is_solid (slice_index (without_comments Spef text) (to - 1)) ≡ true
    → without_comments Spef (part text from to) ≡ part (without_comments Spef text) from to
