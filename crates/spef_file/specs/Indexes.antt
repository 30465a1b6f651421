-- The index of a text, and the text of a net.
use Rattle.std.specs.Prelude.{ℕ, ◌-◌, List, length, take, drop, map, unwrap_or}
use Rattle.std.specs.Str.Lines.{lines}
use Rattle.vg_scan.specs.Lines.{words}
use Rattle.vg_scan.specs.Comments.{without_comments}
use Rattle.vg_scan.specs.declared.comments.Comments.TheVariants.{Spef}
use Rattle.spef_file.specs.declared.section.Section.{Section}
use Rattle.spef_file.specs.declared.spef_index.SpefIndex.{SpefIndex}
use Rattle.spef_file.specs.Nets.{end_at}
use Rattle.spef_file.specs.Files.{file_lines, IsFileOf}
use Rattle.spef_file.specs.NetSpans.{IsSpan, AreSpans}
use Rattle.spef_file.specs.IndexFiles.{file_of}

-- the index of a text: what the text says, and where its nets stand
pub record IsIndexOf (text : List ℕ) (index : SpefIndex) : Type 0 where
  pub said : IsFileOf text (file_of index)
  pub spans : AreSpans (without_comments Spef text) (file_lines text) index.sections

-- a section of a text
abbrev pub IsSectionOf : List ℕ → Section → Type 0
IsSectionOf text section = IsSpan (without_comments Spef text) (file_lines text) section

-- the lines of a text between its first and its last
abbrev pub between : List (List ℕ) → List (List ℕ)
between lines = drop 1 (take (length lines - 1) lines)

-- the lines of a file after the line of this number, up to the next whose first word is `*END`, as texts without
-- comments: where a net's head has this number, they are the net's
abbrev pub lines_after : List ℕ → ℕ → List (List ℕ)
lines_after text line =
    let later = drop line (lines (without_comments Spef text)) in
    take (unwrap_or (end_at (map words later)) 0) later
