-- The nets of a text of which sections are replaced, by their names.
use Rattle.std.specs.Prelude.{◌≡◌, ℕ, true, false, List, [], map}
use Rattle.std.specs.List.{All, AllPairs, Contains, flat_map}
use Rattle.name_tables.specs.Distinct.{AreNew}
use Rattle.vg_scan.specs.declared.fault.LineFault.{LineFault}
use Rattle.spef_file.specs.declared.spef_index.SpefIndex.{SpefIndex}
use Rattle.spef_file.specs.Files.{IsFileOf}
use Rattle.spef_file.specs.Indexes.{IsIndexOf}
use Rattle.spef_file.specs.IndexFiles.{file_of}
use Rattle.spef_file.specs.Nets.{NetHead}
use Rattle.spef_file.specs.Tables.{is_section}
use Rattle.spef_net.specs.declared.fault.NetKind.{NetKind}
use Rattle.spef_net.specs.declared.net.ParNet.{ParNet}
use Rattle.spef_wire.specs.Nets.{IsMissing, IsNetNamed, IsFaultNamed}
use Rattle.spef_write.specs.SectionLaws.{IsWrittenAgain}
use Rattle.spef_patch_laws.specs.Replacements.{Replacement, AreReplacements, replaced}

-- the names of the nets that stand in place of a section
abbrev pub names_in : Replacement → List (List ℕ)
names_in r = map (λ (net : ParNet). net.name) r.nets

-- all nets that are written
abbrev pub written_nets : List Replacement → List ParNet
written_nets rs = flat_map (λ r. r.nets) rs

-- their names
abbrev pub written_names : List Replacement → List (List ℕ)
written_names rs = map (λ (net : ParNet). net.name) (written_nets rs)

-- the names of the nets that they replace
abbrev pub replaced_names : List Replacement → List (List ℕ)
replaced_names rs = map (λ (r : Replacement). r.row.0) rs

-- no two written nets have one name, and none has that of a net that stays
pub record HaveFreeNames (index : SpefIndex) (rs : List Replacement) : Type 0 where
  pub apart : AreNew [] (written_names rs)
  pub free : All (λ name. is_section index.sections name ≡ true → Contains (replaced_names rs) name) (written_names rs)

-- a written net has the name of the section in whose place it stands, or one that no net of the file has; no two nets
-- in place of one section have one name, nor have two in place of different sections a new one
pub record HaveOwnNames (index : SpefIndex) (rs : List Replacement) : Type 0 where
  pub own : All (λ r. All (λ net. is_section index.sections net.name ≡ true → net.name ≡ r.row.0) r.nets) rs
  pub inside : All (λ r. AreNew [] (names_in r)) rs
  pub between : AllPairs
      (λ r other.
      All (λ name. is_section index.sections name ≡ false → Contains (names_in other) name → ⊥) (names_in r)) rs

-- such names are free
abbrev pub OwnNamesAreFree : Type 0
OwnNamesAreFree = (text : List ℕ) (index : SpefIndex) (rs : List Replacement) → IsIndexOf text index
    → AreReplacements index rs → HaveOwnNames index rs
    → HaveFreeNames index rs

-- a text has the net of this name that another has, or none where that has none
pub record HasSameNet (text new name : List ℕ) : Type 0 where
  pub stays : (net : ParNet) → IsNetNamed text name net → IsNetNamed new name net
  pub stood : (net : ParNet) → IsNetNamed new name net → IsNetNamed text name net
  pub missing : IsMissing text name → IsMissing new name
  pub was_missing : IsMissing new name → IsMissing text name

-- the net of a written net's name is this net again
pub record IsReadAgain (text : List ℕ) (net : ParNet) : Type 0 where
  pub read : ParNet
  pub named : IsNetNamed text net.name read
  pub again : (other : ParNet) → IsNetNamed text net.name other → IsWrittenAgain net other
  pub clear : (fault : LineFault NetKind) → IsFaultNamed text net.name fault → ⊥

-- A text has the nets of another with these sections replaced, by their names: the written ones are read again, all
-- others are as they were, and no net has the name of one that is replaced, where no written net has it. Of the header
-- and the name map the texts say the same.
pub record HasReplacements (text new : List ℕ) (index : SpefIndex) (rs : List Replacement) : Type 0 where
  pub nets : List NetHead
  pub said : IsFileOf new (record (file_of index) { nets = nets })
  pub written : All (IsReadAgain new) (written_nets rs)
  pub kept : (name : List ℕ) → (Contains (replaced_names rs) name → ⊥) → (Contains (written_names rs) name → ⊥)
      → HasSameNet text new name
  pub gone : (name : List ℕ) → Contains (replaced_names rs) name
      → (Contains (written_names rs) name → ⊥) → IsMissing new name

-- so it is of the text in which they are replaced
abbrev pub ReplacementsAreRead : Type 0
ReplacementsAreRead = (text : List ℕ) (index : SpefIndex) (rs : List Replacement) → IsIndexOf text index
    → AreReplacements index rs → HaveFreeNames index rs
    → HasReplacements text (replaced text index rs) index rs
