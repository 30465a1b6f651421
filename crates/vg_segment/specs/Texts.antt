-- A text of parasitics in which sections of nets are replaced by those of the cut nets.
use Rattle.std.specs.Prelude.{◌≡◌, ◌⊎◌, ℕ, ◌+◌, ◌-◌, ◌*◌, ◌<◌, ◌≤◌, List, [], ◌∷◌, ◌++◌, length, Some}
use Rattle.std.specs.List.{All, Contains, slice_get}
use Rattle.elmore.specs.declared.tree.Node.{Node}
use Rattle.spef_file.specs.declared.spef_index.SpefIndex.{SpefIndex}
use Rattle.spef_net.specs.declared.net.ParNet.{ParNet}
use Rattle.spef_wire.specs.Nets.{IsNetNamed, IsRefusalOf}
use Rattle.spef_wire.specs.Refusals.{IsNetTree, IsWithinNetLimits, PassesUpTo, most_nodes}
use Rattle.spef_wire.specs.declared.refusal.Refusal.{Refusal}
use Rattle.spef_wire.specs.declared.refusal.Refusal.TheVariants.{TooLarge}
use Rattle.spef_patch_laws.specs.Replacements.{Replacement, NumbersRise, change_of}
use Rattle.spef_patch_laws.specs.Sections.{edit_of}
use Rattle.vg_patch.specs.Edits.{Edit}
use Rattle.spef_patch_laws.specs.ReplacementLaws.{replaced_names}
use Rattle.vg_segment.specs.Segments.{IsSegmented}

-- how many nodes the net has with each resistor in so many parts
abbrev pub cut_count : ℕ → ParNet → ℕ
cut_count parts net = length net.nodes + length net.ress * (parts - 1)

-- a text has a net of this name, which nothing refuses by its parasitics: it has this tree, within the limits; and it has
-- no more than 65,536 nodes with each resistor in so many parts
pub record IsFit (text : List ℕ) (parts : ℕ) (name : List ℕ) (net : ParNet) : Type 0 where
  pub named : IsNetNamed text name net
  pub accepted : PassesUpTo 17 net
  pub tree : List Node
  pub order : List ℕ
  pub a_tree : IsNetTree net tree order
  pub within : IsWithinNetLimits net tree
  pub few : cut_count parts net ≤ most_nodes

-- it has one that is too large when it is cut
pub record IsTooLarge (text : List ℕ) (parts : ℕ) (name : List ℕ) : Type 0 where
  pub net : ParNet
  pub named : IsNetNamed text name net
  pub accepted : PassesUpTo 17 net
  pub many : most_nodes < cut_count parts net

-- the first reason against the net of this name: by its parasitics alone, or that it is too large when it is cut
abbrev pub IsSegmentRefusal : List ℕ → ℕ → List ℕ → Refusal → Type 0
IsSegmentRefusal text parts name refusal =
    IsRefusalOf text name refusal ⊎ ((refusal ≡ TooLarge) × IsTooLarge text parts name)

-- the section of a net is replaced by that of the cut net
pub record IsCutSection (text : List ℕ) (index : SpefIndex) (parts : ℕ) (r : Replacement) : Type 0 where
  pub at : slice_get index.sections r.number ≡ Some r.row
  pub net : ParNet
  pub fit : IsFit text parts r.row.0 net
  pub cut : ParNet
  pub cut_of : IsSegmented net parts cut
  pub is : r.nets ≡ cut ∷ []

-- so it is of the nets of these names that are fit, in the order of the file, and of no others
pub record AreCutSections (text : List ℕ) (index : SpefIndex) (parts : ℕ) (names : List (List ℕ))
    (rs : List Replacement) : Type 0 where
  pub rise : NumbersRise 0 rs
  pub each : All (IsCutSection text index parts) rs
  pub asked : All (Contains names) (replaced_names rs)
  pub all : (name : List ℕ) → Contains names name → (net : ParNet) → IsFit text parts name net
      → Contains (replaced_names rs) name

-- a net's section is replaced by that of the cut net, behind what is replaced already
pub record IsReplaced (index : SpefIndex) (parts : ℕ) (net : ParNet) (old new : List Edit) : Type 0 where
  pub r : Replacement
  pub at : slice_get index.sections r.number ≡ Some r.row
  pub named : r.row.0 ≡ net.name
  pub cut : ParNet
  pub cut_of : IsSegmented net parts cut
  pub is : r.nets ≡ cut ∷ []
  pub last : new ≡ old ++ edit_of index.header (change_of r) ∷ []
