-- Sections of a file's index, and the nets that are to stand in their place.
use Rattle.std.specs.Prelude.{◌≡◌, ℕ, ◌+◌, ◌<◌, ◌≤◌, List, [], ◌∷◌, length, map, Some}
use Rattle.std.specs.List.{All, slice_get}
use Rattle.vg_patch.specs.Edits.{patched}
use Rattle.spef_file.specs.Indexes.{IsIndexOf}
use Rattle.spef_file.specs.Tables.{NetRow}
use Rattle.spef_file.specs.declared.spef_index.SpefIndex.{SpefIndex}
use Rattle.spef_nodes.specs.Nodes.{ParNode}
use Rattle.spef_net.specs.declared.net.ParNet.{ParNet}
use Rattle.spef_write.specs.Texts.{IsQuietLine}
use Rattle.spef_write.specs.Sections.{IsWritable}
use Rattle.spef_patch_laws.specs.Sections.{Change, edit_of}
use Rattle.spef_patch_laws.specs.SectionLaws.{MayChange}

-- a section of an index, by its number there, and the nets that are to stand in its place
pub record Replacement : Type 0 where
  pub number : ℕ
  pub row : NetRow
  pub nets : List ParNet

-- notes of a net's nodes that stay where comments are made blank
abbrev pub HasQuietNotes : ParNet → Type 0
HasQuietNotes net = All (λ (node : ParNode). IsQuietLine node.note) net.nodes

-- a net that can be written, with such notes
pub record IsQuietNet (net : ParNet) : Type 0 where
  pub writable : IsWritable net
  pub notes : HasQuietNotes net

-- the section has this number, and there are one or more nets, which can be written
pub record IsReplacement (index : SpefIndex) (r : Replacement) : Type 0 where
  pub at : slice_get index.sections r.number ≡ Some r.row
  pub some : 0 < length r.nets
  pub nets : All IsQuietNet r.nets

-- their numbers rise from this one on
abbrev pub NumbersRise : ℕ → List Replacement → Type 0
NumbersRise low [] = Unit {0}
NumbersRise low (r ∷ rs) = (low ≤ r.number) × NumbersRise (r.number + 1) rs

-- sections of an index, in their order, may be replaced by these nets
pub record AreReplacements (index : SpefIndex) (rs : List Replacement) : Type 0 where
  pub rise : NumbersRise 0 rs
  pub each : All (IsReplacement index) rs

-- where a section stands, and the nets that are to stand there
abbrev pub change_of : Replacement → Change
change_of r = record { from = r.row.1.from; to = r.row.1.to; nets = r.nets }

-- a text with these sections replaced
abbrev pub replaced : List ℕ → SpefIndex → List Replacement → List ℕ
replaced text index rs = patched text (map (edit_of index.header) (map change_of rs))

-- one or more sections of a text's index may be changed where they stand in the text
abbrev pub SectionsMayChange : Type 0
SectionsMayChange = (text : List ℕ) (index : SpefIndex) (rs : List Replacement) → IsIndexOf text index
    → AreReplacements index rs → 0 < length rs
    → MayChange text index.header (map change_of rs)
