-- The nets of the stages of a net that is split, in a new netlist.
use Rattle.std.specs.Prelude.{◌≡◌, ◌⊎◌, ◌↔◌, ℕ, ◌<◌, true, false, length, map, Some, None, unwrap_or}
use Rattle.std.specs.List.{Contains}
use Rattle.spef_net.specs.declared.net.ConnKind.TheVariants.{Port}
use Rattle.ver_module.specs.Netlists.{Instance, Netlist}
use Rattle.ver_net.specs.Connections.{is_tied}
use Rattle.ver_net.specs.declared.pin_ref.PinRef.{PinRef}
use Rattle.cut_laws.specs.CutNets.{is_end}
use Rattle.vg_design.specs.Designs.{IsEnd, cell_on, instance_at, is_port, net_number, pin_on, port_of}
use Rattle.vg_retime.specs.Passages.{net_at}
use Rattle.vg_scan.specs.Nodes.{has_node}
use Rattle.vg_scan.specs.declared.name.NodeName.{NodeName}
use Rattle.vg_split.specs.NewNames.{cell_name}
use Rattle.vg_split.specs.Splits.{Split, ends_in, forest, head, is_celled, kind_of, name_in, net_of, number_of, old_node, repeater_at, stage_from}
use Rattle.vg_split.specs.Stages.{heads}

-- the number of the net of a stage, which has one
abbrev pub stage_number : Split → Netlist → ℕ → ℕ
stage_number x new k = unwrap_or (net_number new (net_of x k)) 0

-- an instance is the cell at a node: its input is on the net of the stage that it ends, its output on that of its own
-- stage
pub record IsCellAt (x : Split) (new : Netlist) (w : ℕ) (instance : Instance) : Type 0 where
  pub name : instance.name ≡ cell_name x.prefix (number_of x (stage_from x w))
  pub cell : instance.cell ≡ (repeater_at x w).cell
  pub input : (u : ℕ) → u < length (heads (forest x)) → is_end x.problem x.cells (head x u) w ≡ true
      → net_at instance (repeater_at x w).input ≡ Some (stage_number x new u)
  pub output : net_at instance (repeater_at x w).output ≡ Some (stage_number x new (stage_from x w))

-- the cell's pin in a stage is on the stage's net
pub record HasCellPin (x : Split) (new : Netlist) (k w : ℕ) : Type 0 where
  pub pin : PinRef
  pub on : pin_on new (stage_number x new k) (name_in x k w) ≡ Some pin
  pub of_cell : IsCellAt x new w (instance_at new pin)

-- no end of a stage is a port
abbrev pub HasNoPort : Split → ℕ → Type 0
HasNoPort x k = (w : ℕ) → Contains (ends_in x k) w → kind_of x w ≡ Port → ⊥

-- The net of a stage in a new netlist, where it was the net of a number: its ends are those of the stage. Old pins are
-- of the cells that they were of, and each cell that begins or ends the stage has its pin there. It is the port that
-- the net was, or none.
pub record IsStageIn (old : Netlist) (id : ℕ) (x : Split) (new : Netlist) (k : ℕ) : Type 0 where
  pub named : net_number new (net_of x k) ≡ Some (stage_number x new k)
  pub ends : (at : NodeName) → (has_node (map (name_in x k) (ends_in x k)) at ≡ true)
      ↔ IsEnd new (stage_number x new k) at
  pub port : (port_of new (stage_number x new k) ≡ port_of old id)
      ⊎ ((port_of new (stage_number x new k) ≡ None) × HasNoPort x k)
  pub pins : (w : ℕ) → Contains (ends_in x k) w → is_celled x w ≡ false → is_port (old_node x w).name ≡ false
      → cell_on new (stage_number x new k) (old_node x w).name ≡ cell_on old id (old_node x w).name
  pub cells : (w : ℕ) → Contains (ends_in x k) w → is_celled x w ≡ true → HasCellPin x new k w
  pub free : is_tied new (stage_number x new k) ≡ false
