-- A text of which sections are replaced has the lines of a text with splices.
use Rattle.std.specs.Prelude.{◌≡◌, ◌<◌, ℕ, List, [], length, drop, map, if◌then◌else◌}
use Rattle.std.specs.List.{All}
use Rattle.std.specs.Str.Lines.{lines}
use Rattle.vg_patch.specs.Edits.{Rise, patched}
use Rattle.vg_scan.specs.Comments.{without_comments}
use Rattle.vg_scan.specs.declared.comments.Comments.TheVariants.{Spef}
use Rattle.spef_file.specs.declared.header.Header.{Header}
use Rattle.spef_file.specs.Files.{File}
use Rattle.spef_net.specs.Denoted.{IsNet}
use Rattle.spef_net.specs.Faults.{IsFaultless}
use Rattle.spef_net.specs.Statements.{Stated, statements}
use Rattle.spef_net.specs.declared.net.ParNet.{ParNet}
use Rattle.spef_write.specs.SectionLaws.{IsMeantBy, IsWrittenAgain}
use Rattle.spef_nodes.specs.Nodes.{ParNode}
use Rattle.spef_write.specs.Texts.{IsQuiet, IsQuietLine}
use Rattle.spef_write.specs.Sections.{IsWritable}
use Rattle.spef_patch_laws.specs.FileLaws.{HasSplices}
use Rattle.spef_patch_laws.specs.NetTexts.{NetText, Splice, lines_from, new_text}
use Rattle.spef_patch_laws.specs.PatchLaws.{IsQuietEdit}
use Rattle.spef_patch_laws.specs.Sections.{Change, sections_text, edit_of, written_text, IsChange, IsWrittenNet}

-- sections of a text, one after another, may be replaced by these nets
pub record MayChange (text : List ℕ) (header : Header) (changes : List Change) : Type 0 where
  pub some : 0 < length changes
  pub rise : Rise 0 (length text) (map (edit_of header) changes)
  pub quiet : All (IsQuietEdit text) (map (edit_of header) changes)
  pub changes_are : All (IsChange (without_comments Spef text) header) changes

-- another text has these nets in place of those whose heads stand where the changes begin, and all other lines of the
-- text
pub record HasChanges (text new : List ℕ) (header : Header) (changes : List Change) : Type 0 where
  pub front : List (List ℕ)
  pub splices : List Splice
  pub has : HasSplices text new front splices
  pub heads : lines_from splices ≡ map (λ c. length (lines (drop c.from (without_comments Spef text)))) changes
  pub nets : map (λ s. map new_text s.new) splices ≡ map (λ c. map (written_text header) c.nets) changes

-- so it is of the text with these edits
abbrev pub TextsHaveChanges : Type 0
TextsHaveChanges = (text : List ℕ) (header : Header) (changes : List Change) → MayChange text header changes
    → HasChanges text (patched text (map (edit_of header) changes)) header changes

-- each net that can be written is one whose lines are those of a net
abbrev pub WritableNetsAreWritten : Type 0
WritableNetsAreWritten = (header : Header) (net : ParNet) → IsWritable net → IsWrittenNet header net

-- what the lines of a net say; those of a reduced net are not read
abbrev pub statements_of : File → NetText → List Stated
statements_of file text = if text.reduced then [] else statements file text.lines

-- the net of a name and its lines
pub record IsNetOfText (file : File) (text : NetText) (net : ParNet) : Type 0 where
  pub faultless : IsFaultless text.name (statements_of file text)
  pub denoted : IsNet text.name text.reduced (statements_of file text) net

-- the lines of a written net have no fault, and what is read of them is the net again
abbrev pub WrittenTextsAreRead : Type 0
WrittenTextsAreRead = (file : File) (header : Header) (net : ParNet) → IsMeantBy header file → IsWritable net
    → IsFaultless net.name (statements_of file (written_text header net))
    × ((other : ParNet) → IsNetOfText file (written_text header net) other → IsWrittenAgain net other)

-- sections, one after another, are quiet, where the notes of their nodes are
abbrev pub WrittenSectionsAreQuiet : Type 0
WrittenSectionsAreQuiet = (header : Header) (nets : List ParNet) → All IsWritable nets
    → All (λ (net : ParNet). All (λ (node : ParNode). IsQuietLine node.note) net.nodes) nets
    → IsQuiet (sections_text header nets)
