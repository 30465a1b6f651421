-- The change of a design: nets in which cells are put, and the texts that come of its netlist and its parasitics.
use Rattle.std.specs.Prelude.{◌≡◌, ◌≤◌, ℕ, List, [], ◌∷◌, ◌++◌, length, None, Some, slice_get}
use Rattle.std.specs.List.{All, AllPass, Contains}
use Rattle.spef_file.specs.Indexes.{IsIndexOf}
use Rattle.spef_file.specs.declared.section.Section.{Section}
use Rattle.spef_file.specs.declared.spef_index.SpefIndex.{SpefIndex}
use Rattle.spef_net.specs.declared.net.ParNet.{ParNet}
use Rattle.ver_module.specs.declared.link.Link.TheVariants.{One}
use Rattle.ver_net.specs.Laws.{HasLink}
use Rattle.ver_patch.specs.Patches.{IsPatched}
use Rattle.ver_patch.specs.Pins.{AreRewirable}
use Rattle.ver_patch.specs.NewCells.{NewCell}
use Rattle.ver_patch.specs.Rewires.{Rewire}
use Rattle.vg_design.specs.Designs.{Design}
use Rattle.vg_patch.specs.Edits.{Edit, Rise, end_of, patched}
use Rattle.vg_scan.specs.Printed.{is_solid}
use Rattle.vg_scan.specs.declared.chars.Chars.{Chars}
use Rattle.vg_split.specs.Conditions.{IsNamed}
use Rattle.vg_split.specs.Splits.{Split, forest, IsStageNet}
use Rattle.spef_patch_laws.specs.Sections.{edit_of}
use Rattle.vg_split.specs.Stages.{heads}
use Rattle.vg_change.specs.Placed.{PlacedNet, split_of, rewires_of, cells_of, wires_of}
use Rattle.vg_change.specs.Taken.{taken}

-- What changes in a design, where new names begin with a prefix: sections of its parasitics, connections of its
-- netlist, new cells and new nets.
pub record Changes : Type 0 where
  pub design : Design
  pub prefix : List ℕ
  pub sections : List Edit
  pub rewires : List Rewire
  pub cells : List NewCell
  pub wires : List (List ℕ)

abbrev pub nothing : Design → List ℕ → Changes
nothing d prefix = record { design = d; prefix = prefix; sections = []; rewires = []; cells = []; wires = [] }

-- ---- a net that is put

-- these are the nets of the first n stages, in their order
pub record AreStageNets (chars : Chars) (x : Split) (n : ℕ) (nets : List ParNet) : Type 0 where
  pub count : length nets ≡ n
  pub each : (k : ℕ) (net : ParNet) → slice_get nets k ≡ Some net → IsStageNet chars x k net

-- the section of a net stands there in a text
pub record IsSectionNamed (text name : List ℕ) (index : SpefIndex) (section : Section) : Type 0 where
  pub index_of : IsIndexOf text index
  pub row : Contains index.sections (name, section)

-- the section of the net is replaced by those of its stages
pub record IsSectionEdit (text : List ℕ) (x : Split) (e : Edit) : Type 0 where
  pub index : SpefIndex
  pub section : Section
  pub nets : List ParNet
  pub named : IsSectionNamed text x.par.name index section
  pub stages : AreStageNets index.header.chars x (length (heads (forest x))) nets
  pub is : e ≡ edit_of index.header (record { from = section.from; to = section.to; nets = nets })

-- the net as it is split behind those that were put before: cells are numbered over all of them
abbrev pub split_behind : Changes → PlacedNet → Split
split_behind c p = split_of c.design c.prefix (length c.cells) p

-- besides what changed before, a net is split: its section, its connections, its cells and their nets
pub record HasPut (old : Changes) (p : PlacedNet) (new : Changes) : Type 0 where
  pub section : Edit
  pub is_section : IsSectionEdit old.design.spef (split_behind old p) section
  pub is : new ≡ record old {
    sections = old.sections ++ section ∷ [];
    rewires = old.rewires ++ rewires_of old.design.netlist p (split_behind old p);
    cells = old.cells ++ cells_of old.design.netlist p.net.id (split_behind old p);
    wires = old.wires ++ wires_of (split_behind old p);
  }

-- the same of nets, one after another
abbrev pub HavePut : Changes → List PlacedNet → Changes → Type 0
HavePut old [] new = new ≡ old
HavePut old (p ∷ nets) new = (mid : Changes) × HasPut old p mid × HavePut mid nets new

-- ---- the texts

-- the texts of the changed parasitics and of the changed netlist, made of these
pub record AreTexts (c : Changes) (spef verilog new_spef new_verilog : List ℕ) : Type 0 where
  pub parasitics : new_spef ≡ patched spef c.sections
  pub netlist : IsPatched verilog c.design.netlist c.rewires c.cells c.wires new_verilog

-- ---- what a change keeps

-- its new names can be words and are no names of the design, nor are those of repeaters other than words; sections
-- stand one after another, and pins that are linked anew differ
pub record IsChange (c : Changes) : Type 0 where
  pub prefix : AllPass is_solid c.prefix
  pub free : taken c.design c.prefix ≡ None
  pub repeaters : All IsNamed c.design.library.repeaters
  pub rise : Rise 0 (length c.design.spef) c.sections
  pub rewirable : AreRewirable c.design.netlist c.rewires

-- the section of a net stands behind those that are replaced
abbrev pub IsBehind : Changes → List ℕ → Type 0
IsBehind c name = (index : SpefIndex) (section : Section) → IsSectionNamed c.design.spef name index section
    → end_of c.sections ≤ section.from

-- no pin of the net of this number is linked anew
abbrev pub IsFresh : Changes → ℕ → Type 0
IsFresh c id = All (λ rewire. HasLink c.design.netlist rewire.at (One id) → ⊥) c.rewires
