-- A text of parasitics in which the resistors of nets are cut into parts, as it is read.
use Rattle.std.specs.Prelude.{◌≡◌, ◌↔◌, ◌<◌, ◌≤◌, ℕ, ℤ, List}
use Rattle.std.specs.List.{Contains}
use Rattle.spef_file.specs.Files.{File, IsFileOf}
use Rattle.spef_file.specs.Indexes.{IsIndexOf}
use Rattle.spef_file.specs.declared.spef_index.SpefIndex.{SpefIndex}
use Rattle.spef_net.specs.declared.net.ParNet.{ParNet}
use Rattle.spef_patch_laws.specs.ReplacementLaws.{HasSameNet, replaced_names}
use Rattle.spef_patch_laws.specs.Replacements.{Replacement, replaced}
use Rattle.spef_wire.specs.Nets.{IsNetNamed}
use Rattle.spef_wire.specs.Wires.{IsWireOf}
use Rattle.spef_wire.specs.declared.wire.WireNet.{WireNet}
use Rattle.spef_write.specs.SectionLaws.{IsWrittenAgain}
use Rattle.vg_scan.specs.declared.name.NodeName.{NodeName}
use Rattle.vg_segment.specs.Segments.{IsSegmented}
use Rattle.vg_segment.specs.Texts.{AreCutSections}

-- the same capacitance, and the same wire delay to each sink
pub record HasSameDelays (wire other : WireNet) : Type 0 where
  pub total : other.total ≡ wire.total
  pub sinks : (row : NodeName × ℤ) → Contains wire.sinks row ↔ Contains other.sinks row

-- A net of a text is, in another, this net with each resistor cut into parts: it is read as the cut net, by the names
-- of the nodes, and its wire delays are as they were.
pub record IsCutIn (old new : List ℕ) (parts : ℕ) (name : List ℕ) : Type 0 where
  pub net : ParNet
  pub was : IsNetNamed old name net
  pub cut : ParNet
  pub cut_of : IsSegmented net parts cut
  pub read : ParNet
  pub is : IsNetNamed new name read
  pub again : IsWrittenAgain cut read
  pub delays : (wire : WireNet) → IsWireOf old name wire
      → (other : WireNet) × IsWireOf new name other × HasSameDelays wire other

-- So it is of the nets of these names; all others are as they were.
pub record IsSegmentedText (old new : List ℕ) (parts : ℕ) (names : List (List ℕ)) : Type 0 where
  pub said : File
  pub file : IsFileOf new said
  pub cut : (name : List ℕ) → Contains names name → IsCutIn old new parts name
  pub kept : (name : List ℕ) → (Contains names name → ⊥) → HasSameNet old new name

-- the text in which sections are replaced by those of cut nets is read so
abbrev pub CutSectionsAreRead : Type 0
CutSectionsAreRead =
    (text : List ℕ) (index : SpefIndex) (parts : ℕ) (names : List (List ℕ)) (rs : List Replacement)
    → IsIndexOf text index → 0 < parts → parts ≤ 64 → AreCutSections text index parts names rs
    → IsSegmentedText text (replaced text index rs) parts (replaced_names rs)
