-- A net that is split, and what a new design says of the nets of its stages, by their names: its parasitics and its
-- netlist, as they are read again.
use Rattle.std.specs.Prelude.{◌≡◌, ℕ, ◌<◌, List, length}
use Rattle.lib_linear.specs.Libraries.{AreOfCells}
use Rattle.spef_net.specs.declared.net.ParNet.{ParNet}
use Rattle.retime_laws.specs.NetlistStages.{IsStageIn, stage_number}
use Rattle.vg_design.specs.Designs.{Design, Joined}
use Rattle.vg_design.specs.Refusals.{IsJoined, PassesUpTo}
use Rattle.split_laws.specs.ReadNets.{IsReadOf}
use Rattle.split_laws.specs.StagePieces.{IsSplitOf}
use Rattle.vg_split.specs.Splits.{Split, forest, net_of}
use Rattle.vg_split.specs.Stages.{heads}
use Rattle.spef_wire.specs.Nets.{IsNetNamed}

-- The net of a name, which nothing refuses but perhaps its size, is split by a placement into cells of the design's
-- library.
pub record IsPut (d : Design) (n : Joined) (x : Split) : Type 0 where
  pub split : IsSplitOf d n x
  pub name : List ℕ
  pub joined : IsJoined d name n
  pub accepted : PassesUpTo 16 d name
  pub library : AreOfCells d.library

-- the net of a stage in the new parasitics is read again of the stage
pub record IsStageInParasitics (d : Design) (n : Joined) (x : Split) (new : Design) (k : ℕ) : Type 0 where
  pub read : ParNet
  pub named : IsNetNamed new.spef (net_of x k) read
  pub is_read : IsReadOf d n x k read

-- The new design has the library and the constraints of the old one, and a net for each stage.
pub record HasStages (d : Design) (n : Joined) (x : Split) (new : Design) : Type 0 where
  pub library : new.library ≡ d.library
  pub rows : new.rows ≡ d.rows
  pub parasitics : (k : ℕ) → k < length (heads (forest x)) → IsStageInParasitics d n x new k
  pub netlist : (k : ℕ) → k < length (heads (forest x)) → IsStageIn d.netlist n.id x new.netlist k

-- the net of a stage there
abbrev pub stage_net : {d : Design} {n : Joined} {x : Split} {new : Design} → HasStages d n x new
    → (k : ℕ) → k < length (heads (forest x)) → Joined
stage_net {d} {n} {x} {new} has k low = record { par = (has.parasitics k low).read; id = stage_number x new.netlist k }
