-- Sections of an index that are replaced by the nets of stages.
use Rattle.std.specs.Prelude.{◌≡◌, List, length, map}
use Rattle.std.specs.List.{AllZip}
use Rattle.spef_file.specs.declared.spef_index.SpefIndex.{SpefIndex}
use Rattle.vg_change.specs.Changes.{AreStageNets}
use Rattle.vg_patch.specs.Edits.{Edit}
use Rattle.vg_scan.specs.declared.chars.Chars.{Chars}
use Rattle.vg_split.specs.Splits.{Split, forest}
use Rattle.spef_patch_laws.specs.Replacements.{Replacement, AreReplacements, change_of}
use Rattle.spef_patch_laws.specs.ReplacementLaws.{HaveOwnNames}
use Rattle.spef_patch_laws.specs.Sections.{edit_of}
use Rattle.vg_split.specs.Stages.{heads}

-- the section of a net is replaced by the nets of its stages
pub record IsReplacedBy (chars : Chars) (x : Split) (r : Replacement) : Type 0 where
  pub name : r.row.0 ≡ x.par.name
  pub stages : AreStageNets chars x (length (heads (forest x))) r.nets

-- these edits are such replacements, one for each net: of the sections of an index, in their order, by nets that can be
-- written and have names of their own
pub record AreStageEdits (index : SpefIndex) (xs : List Split) (edits : List Edit)
    (rs : List Replacement) : Type 0 where
  pub each : AllZip (IsReplacedBy index.header.chars) xs rs
  pub edits_are : edits ≡ map (edit_of index.header) (map change_of rs)
  pub are : AreReplacements index rs
  pub own : HaveOwnNames index rs
