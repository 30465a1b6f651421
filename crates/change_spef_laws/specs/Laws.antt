-- What is true of the parasitics of changed designs.
use Rattle.std.specs.Prelude.{◌≡◌, ◌≢◌, ℕ, List, ◌∷◌, length}
use Rattle.std.specs.List.{AllZip, Contains}
use Rattle.spef_file.specs.Files.{File, IsFileOf}
use Rattle.spef_file.specs.Indexes.{IsIndexOf}
use Rattle.spef_file.specs.declared.spef_index.SpefIndex.{SpefIndex}
use Rattle.spef_net.specs.declared.net.ParNet.{ParNet}
use Rattle.vg_change.specs.Changes.{Changes, HasPut, split_behind}
use Rattle.vg_change.specs.Placed.{PlacedNet}
use Rattle.vg_design.specs.Designs.{Design}
use Rattle.vg_patch.specs.Edits.{patched}
use Rattle.split_laws.specs.StagePieces.{IsSplitOf}
use Rattle.vg_scan.specs.Comments.{without_comments}
use Rattle.vg_scan.specs.declared.comments.Comments.TheVariants.{Spef}
use Rattle.spef_patch_laws.specs.Replacements.{Replacement}
use Rattle.spef_wire.specs.Nets.{IsNetNamed}
use Rattle.change_spef_laws.specs.Nets.{IsChangeBy, HasStages, splits}
use Rattle.change_spef_laws.specs.Replaced.{AreStageEdits}

-- a text has one index at most
abbrev pub OneIndex : Type 0
OneIndex = (text : List ℕ) (a b : SpefIndex) → IsIndexOf text a → IsIndexOf text b → a ≡ b

-- the edits of the parasitics are replacements of sections by nets with names of their own
abbrev pub SectionsAreReplaced : Type 0
SectionsAreReplaced = (d : Design) (prefix : List ℕ) (nets : List PlacedNet) (c : Changes) (index : SpefIndex)
    → IsChangeBy d prefix nets c → IsIndexOf d.spef index
    → (rs : List Replacement) × AreStageEdits index (splits d prefix 0 nets) c.sections rs

-- each net is split by its placement
abbrev pub NetsAreSplit : Type 0
NetsAreSplit = (d : Design) (prefix : List ℕ) (nets : List PlacedNet) (c : Changes) → IsChangeBy d prefix nets c
    → AllZip (λ p x. IsSplitOf d p.net x) nets (splits d prefix 0 nets)

-- one net after another, each is split behind what changed before
abbrev pub SplitsGoOn : Type 0
SplitsGoOn = (old new : Changes) (p : PlacedNet) (nets : List PlacedNet) → HasPut old p new
    → splits old.design old.prefix (length old.cells) (p ∷ nets)
    ≡ split_behind old p ∷ splits new.design new.prefix (length new.cells) nets

-- the text of the changed parasitics, as a file and without comments
abbrev pub ChangedNetsAreRead : Type 0
ChangedNetsAreRead = (d : Design) (prefix : List ℕ) (nets : List PlacedNet) (c : Changes) (spef : List ℕ) (file : File)
    → d.spef ≡ without_comments Spef spef
    → IsFileOf spef file → IsChangeBy d prefix nets c
    → ((said : File) × IsFileOf (patched spef c.sections) said)
    × HasStages d.spef (without_comments Spef (patched spef c.sections)) (splits d prefix 0 nets)

-- other nets are as they were
abbrev pub OtherNetsStay : Type 0
OtherNetsStay = (d : Design) (prefix : List ℕ) (nets : List PlacedNet) (c : Changes) (new name : List ℕ) (net : ParNet)
    → IsChangeBy d prefix nets c
    → HasStages d.spef new (splits d prefix 0 nets) → IsNetNamed d.spef name net
    → ((p : PlacedNet) → Contains nets p → name ≢ p.net.par.name) → IsNetNamed new name net
