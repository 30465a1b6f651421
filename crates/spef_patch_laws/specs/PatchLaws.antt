-- The comments of texts of which parts are replaced.
use Rattle.std.specs.Prelude.{◌≡◌, ◌+◌, ◌<◌, ℕ, List, ◌++◌, length, drop, codes}
use Rattle.std.specs.List.{All}
use Rattle.vg_patch.specs.Edits.{Edit, Rise, patched}
use Rattle.vg_scan.specs.Comments.{without_comments}
use Rattle.vg_scan.specs.Parts.{IsFirstSolid}
use Rattle.vg_scan.specs.declared.comments.Comments.TheVariants.{Spef}
use Rattle.spef_write.specs.Splices.{IsCutAt}
use Rattle.spef_write.specs.Texts.{IsQuiet}

-- a text may be cut behind `*END`, where this is the first word of a line
abbrev pub EndsKeepComments : Type 0
EndsKeepComments = (text : List ℕ) (end : ℕ) → IsFirstSolid (without_comments Spef text) end → end < length text
    → drop end text ≡ codes "*END" ++ drop (end + 4) text → IsCutAt text (end + 4)

-- a text may be cut at both ends of a part, and what is to stand there is quiet
pub record IsQuietEdit (text : List ℕ) (e : Edit) : Type 0 where
  pub from : IsCutAt text e.from
  pub to : IsCutAt text e.to
  pub quiet : IsQuiet e.text

-- what stands between such parts has the comments that it had
abbrev pub PatchesKeepComments : Type 0
PatchesKeepComments = (text : List ℕ) (edits : List Edit) → Rise 0 (length text) edits → All (IsQuietEdit text) edits
    → without_comments Spef (patched text edits) ≡ patched (without_comments Spef text) edits
