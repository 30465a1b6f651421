-- Texts that are cut in two, or have a section replaced, and their comments.
use Rattle.std.specs.Prelude.{◌≡◌, ℕ, ◌+◌, ◌<◌, List, ◌++◌, length, take, drop, codes}
use Rattle.vg_scan.specs.declared.comments.Comments.TheVariants.{Spef}
use Rattle.vg_scan.specs.Comments.{without_comments}
use Rattle.vg_scan.specs.Parts.{IsFirstSolid}
use Rattle.spef_write.specs.Texts.{IsQuiet}

-- a text is read in two parts: before this place whatever is put behind, and from there on alone
pub record IsCutAt (text : List ℕ) (from : ℕ) : Type 0 where
  pub before : (xs : List ℕ) → without_comments Spef (take from text ++ xs)
      ≡ take from (without_comments Spef text) ++ without_comments Spef xs
  pub after : drop from (without_comments Spef text) ≡ without_comments Spef (drop from text)

-- a text may be cut where the first word of a line begins
abbrev pub CutsKeepComments : Type 0
CutsKeepComments =
    (text : List ℕ) (from : ℕ) → IsFirstSolid (without_comments Spef text) from → from < length text → IsCutAt text from

-- A section, from a line's first word on to the `*END` at `end`, which is a line's first word too, is replaced by a
-- text that is quiet: what stands before it and behind it has the comments that it had.
abbrev pub SectionsSplice : Type 0
SectionsSplice = (text new : List ℕ) (from end : ℕ)
    → IsFirstSolid (without_comments Spef text) from → from < length text
    → IsFirstSolid (without_comments Spef text) end → end < length text
    → drop end text ≡ codes "*END" ++ drop (end + 4) text
    → IsQuiet new
    → without_comments Spef (take from text ++ (new ++ drop (end + 4) text))
    ≡ take from (without_comments Spef text) ++ (new ++ drop (end + 4) (without_comments Spef text))
