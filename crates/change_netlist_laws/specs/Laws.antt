-- What is true of the netlist of every design into which cells are put.
use Rattle.std.specs.Prelude.{◌≡◌, ◌≢◌, ℕ, ◌<◌, true, List, length, Some, slice_get}
use Rattle.std.specs.List.{All, Contains}
use Rattle.ver_patch_text_laws.specs.Laws.{IsChanged}
use Rattle.ver_file.specs.Modules.{Denotes}
use Rattle.ver_module.specs.Netlists.{Net, Netlist}
use Rattle.ver_patch_laws.specs.Consistent.{IsConsistent}
use Rattle.ver_patch_laws.specs.Laws.{IsReadAgain}
use Rattle.ver_patch_laws.specs.Renewed.{IsRenewed}
use Rattle.ver_text.specs.Names.{is_word}
use Rattle.vg_change.specs.Changes.{Changes, HavePut, nothing}
use Rattle.vg_change.specs.Placed.{PlacedNet}
use Rattle.vg_design.specs.Designs.{Design, IsEnd, net_number}
use Rattle.vg_scan.specs.declared.name.NodeName.{NodeName}
use Rattle.vg_split.specs.Splits.{Split, forest}
use Rattle.vg_split.specs.Stages.{heads}
use Rattle.vg_scan.specs.Prefixes.{is_prefix}
use Rattle.retime_laws.specs.NetlistStages.{IsStageIn, stage_number}
use Rattle.change_netlist_laws.specs.Others.{IsAsItWas}
use Rattle.change_netlist_laws.specs.Put.{IsSplitAs, IsWrittenAnew}

-- what is written may be written, and keeps names apart
abbrev pub ChangesAreConsistent : Type 0
ChangesAreConsistent =
    (verilog : List ℕ) (d : Design) (prefix : List ℕ) (nets : List PlacedNet) (c : Changes) (new : List ℕ)
    → IsWrittenAnew verilog d prefix nets c new
    → IsChanged verilog d.netlist c.rewires c.cells c.wires new × IsConsistent d.netlist c.rewires c.cells c.wires

-- so the new text denotes a netlist, which is the old one with the changes
abbrev pub NetlistsAreReadAgain : Type 0
NetlistsAreReadAgain =
    (verilog : List ℕ) (d : Design) (prefix : List ℕ) (nets : List PlacedNet) (c : Changes) (new : List ℕ)
    → IsWrittenAnew verilog d prefix nets c new
    → IsReadAgain d.netlist c.rewires c.cells new

-- ---- what callers know

-- a prefix that may be asked for is a word
abbrev pub PrefixesAreWords : Type 0
PrefixesAreWords = (prefix : List ℕ) → is_prefix prefix ≡ true → is_word prefix ≡ true

-- each net that is put is split in some way
abbrev pub NetsAreSplit : Type 0
NetsAreSplit =
    (d : Design) (prefix : List ℕ) (nets : List PlacedNet) (c : Changes) (p : PlacedNet)
    → HavePut (nothing d prefix) nets c → Contains nets p
    → (x : Split) × IsSplitAs d prefix nets c p x

-- ---- the nets of stages

-- in that netlist the stages of each net are nets
abbrev pub StagesAreNets : Type 0
StagesAreNets =
    (verilog : List ℕ) (d : Design) (prefix : List ℕ) (nets : List PlacedNet) (c : Changes) (new : List ℕ)
    → IsWrittenAnew verilog d prefix nets c new
    → (renewed : Netlist) → Denotes new renewed → IsRenewed d.netlist c.rewires c.cells renewed
    → (p : PlacedNet) (x : Split) → IsSplitAs d prefix nets c p x → (k : ℕ) → k < length (heads (forest x))
    → IsStageIn d.netlist p.net.id x renewed k

-- each of which is the net of one stage alone
abbrev pub StagesDiffer : Type 0
StagesDiffer =
    (verilog : List ℕ) (d : Design) (prefix : List ℕ) (nets : List PlacedNet) (c : Changes) (new : List ℕ)
    → IsWrittenAnew verilog d prefix nets c new
    → (renewed : Netlist) → Denotes new renewed → IsRenewed d.netlist c.rewires c.cells renewed
    → (p q : PlacedNet) (x y : Split) → IsSplitAs d prefix nets c p x → IsSplitAs d prefix nets c q y
    → (k u : ℕ) → k < length (heads (forest x)) → u < length (heads (forest y))
    → stage_number x renewed k ≡ stage_number y renewed u
    → (p ≡ q) × (x ≡ y) × (k ≡ u)

-- ---- other nets

-- the net of this name is as the one of this number was
pub record HasNetAsItWas (old : Netlist) (id : ℕ) (new : Netlist) (name : List ℕ) : Type 0 where
  pub now : ℕ
  pub number : net_number new name ≡ Some now
  pub is : IsAsItWas old id new now

-- a net into which nothing is put, and which has an end, stays as it was
abbrev pub OtherNetsStay : Type 0
OtherNetsStay =
    (verilog : List ℕ) (d : Design) (prefix : List ℕ) (nets : List PlacedNet) (c : Changes) (new : List ℕ)
    → IsWrittenAnew verilog d prefix nets c new
    → (renewed : Netlist) → Denotes new renewed → IsRenewed d.netlist c.rewires c.cells renewed
    → (id : ℕ) (net : Net) (at : NodeName) → slice_get d.netlist.nets id ≡ Some net
    → All (λ p. p.net.id ≢ id) nets → IsEnd d.netlist id at
    → HasNetAsItWas d.netlist id renewed net.name
