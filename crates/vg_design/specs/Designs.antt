-- What the four files of a design denote, and what they say of the ends of its nets.
use Rattle.std.specs.Prelude.{◌≡◌, ◌⊎◌, ◌↔◌, ℕ, ◌==◌, Bool, true, false, List, [], length, map, find, slice_index_or, Option, Some, None, option_map, option_and_then, pos, unwrap_or, if◌then◌else◌}
use Rattle.std.specs.List.{All, slice_get}
use Rattle.elmore.specs.declared.parts.Driver.{Driver}
use Rattle.lib_linear.specs.Libraries.{Cells, cap_of, drive_in, limit_of}
use Rattle.spef_file.specs.Files.{file_lines, said_by}
use Rattle.spef_net.specs.declared.net.ConnKind.{ConnKind}
use Rattle.spef_net.specs.declared.net.ConnKind.TheVariants.{Pin as PinKind, Port as PortKind}
use Rattle.spef_net.specs.declared.net.Direction.{Direction}
use Rattle.spef_net.specs.declared.net.Direction.TheVariants.{In, Out, Both}
use Rattle.spef_net.specs.declared.net.ParNet.{ParNet}
use Rattle.spef_nodes.specs.Nodes.{ParNode}
use Rattle.ver_module.specs.declared.link.Link.TheVariants.{Open, One}
use Rattle.ver_module.specs.declared.direction.PortDir.{PortDir}
use Rattle.ver_module.specs.declared.direction.PortDir.TheVariants.{Input, Output, Inout}
use Rattle.ver_module.specs.Netlists.{Net, Pin, Instance, Netlist}
use Rattle.ver_net.specs.Connections.{pins_on}
use Rattle.ver_net.specs.Laws.{HasLink}
use Rattle.ver_net.specs.declared.pin_ref.PinRef.{PinRef}
use Rattle.vg_cons.specs.Rows.{Rows, arrival_of, drive_of, load_of}
use Rattle.name_tables.specs.Distinct.{number_of}
use Rattle.vg_scan.specs.Nodes.{has_node, same_node}
use Rattle.vg_scan.specs.declared.name.NodeName.{NodeName}

-- A SPEF text, and what the library, the netlist and the constraints of a design denote.
pub record Design : Type 0 where
  pub spef : List ℕ
  pub library : Cells
  pub netlist : Netlist
  pub rows : Rows

-- the names of the nets of a SPEF text, in the order of the text
abbrev pub net_names : List ℕ → List (List ℕ)
net_names text = map (λ head. head.name) (said_by (file_lines text)).nets

-- A net of a design: its parasitics, and its number in the netlist.
pub record Joined : Type 0 where
  pub par : ParNet
  pub id : ℕ

-- ---- names

-- past the last node there is none
abbrev pub NO_NODE : ParNode
NO_NODE = record { name = record { owner = []; leaf = [] }; inner = false; note = [] }

-- the name of one of some nodes
abbrev pub node_name : List ParNode → ℕ → NodeName
node_name nodes v = (slice_index_or nodes v NO_NODE).name

-- the name of a node of a net
abbrev pub name_of : ParNet → ℕ → NodeName
name_of net v = node_name net.nodes v

-- the names of its connections
abbrev pub ends_of : ParNet → List NodeName
ends_of net = map (λ conn. name_of net conn.node) net.conns

-- a port has no leaf, a pin has one
abbrev pub is_port : NodeName → Bool
is_port at = length at.leaf == 0

-- ---- the netlist

-- the number of the net of this name in the netlist, if it has one
abbrev pub net_number : Netlist → List ℕ → Option ℕ
net_number netlist name = number_of (map (λ n. n.name) netlist.nets) name

-- the direction of the port that a net is, if it is one
abbrev pub port_of : Netlist → ℕ → Option PortDir
port_of netlist id = option_and_then (λ n. n.port) (slice_get netlist.nets id)

-- past the last instance, and past its last pin, there is none
abbrev pub NO_INSTANCE : Instance
NO_INSTANCE = record { name = []; cell = []; pins = [] }

abbrev pub NO_PIN : Pin
NO_PIN = record { name = []; span = record { from = 0; to = 0 }; link = Open }

-- the instance of a pin, and the pin's name
abbrev pub instance_at : Netlist → PinRef → Instance
instance_at netlist at = slice_index_or netlist.instances at.instance NO_INSTANCE

abbrev pub pin_name : Netlist → PinRef → NodeName
pin_name netlist at =
    record { owner = (instance_at netlist at).name; leaf = (slice_index_or (instance_at netlist at).pins at.pin NO_PIN).name }

-- the netlist links a pin of this name to this one net
pub record IsLinked (netlist : Netlist) (id : ℕ) (at : NodeName) : Type 0 where
  pub pin : PinRef
  pub link : HasLink netlist pin (One id)
  pub named : at ≡ pin_name netlist pin

-- the net is a port of the design
pub record IsPort (netlist : Netlist) (id : ℕ) (at : NodeName) : Type 0 where
  pub net : Net
  pub is : slice_get netlist.nets id ≡ Some net
  pub direction : PortDir
  pub port : net.port ≡ Some direction
  pub named : at ≡ record { owner = net.name; leaf = [] }

-- an end of a net in the netlist: a pin that is linked to it, or the port that it is
abbrev pub IsEnd : Netlist → ℕ → NodeName → Type 0
IsEnd netlist id at = IsLinked netlist id at ⊎ IsPort netlist id at

-- a port and its connection have the same direction
abbrev pub is_same_way : Option PortDir → Direction → Bool
is_same_way (Some Input) In = true
is_same_way (Some Output) Out = true
is_same_way (Some Inout) Both = true
is_same_way _ _ = false

-- a connection that is a port has the direction of this one
abbrev pub agrees : Option PortDir → ConnKind → Direction → Bool
agrees port PinKind direction = true
agrees port PortKind direction = is_same_way port direction

-- the connections of a net are, as a set, its ends in the netlist, and a port has its direction there
pub record IsConnected (netlist : Netlist) (id : ℕ) (net : ParNet) : Type 0 where
  pub same : (at : NodeName) → (has_node (ends_of net) at ≡ true) ↔ IsEnd netlist id at
  pub direction : All (λ conn. agrees (port_of netlist id) conn.kind conn.direction ≡ true) net.conns

-- the pin of this name on a net, if there is one
abbrev pub pin_on : Netlist → ℕ → NodeName → Option PinRef
pin_on netlist id at = find (λ pin. same_node at (pin_name netlist pin)) (pins_on netlist id)

-- the cell of its instance
abbrev pub cell_on : Netlist → ℕ → NodeName → Option (List ℕ)
cell_on netlist id at = option_map (λ pin. (instance_at netlist pin).cell) (pin_on netlist id at)

-- ---- the library and the constraints

-- what the library gives for a pin on a net: its capacitance (aF), its intrinsic delay (zs) and its resistance (mΩ),
-- its greatest load (aF)
abbrev pub pin_cap_of : Design → Joined → NodeName → Option ℕ
pin_cap_of d n at = option_and_then (λ cell. cap_of d.library cell at.leaf) (cell_on d.netlist n.id at)

abbrev pub pin_drive_of : Design → Joined → NodeName → Option (ℕ × ℕ)
pin_drive_of d n at = option_and_then (λ cell. drive_in d.library cell at.leaf) (cell_on d.netlist n.id at)

abbrev pub pin_limit_of : Design → Joined → NodeName → Option ℕ
pin_limit_of d n at = option_and_then (λ cell. limit_of d.library cell at.leaf) (cell_on d.netlist n.id at)

-- the load of a sink (aF): a port's is that of the constraints, a pin's its capacitance, without which a net is refused
abbrev pub sink_load : Design → Joined → NodeName → ℕ
sink_load d n at = if is_port at then load_of d.rows at.owner else unwrap_or (pin_cap_of d n at) 0

-- the driver of a net, which is a port
abbrev pub port_driver : Rows → NodeName → Driver
port_driver rows at = record {
  k = (drive_of rows at.owner).1;
  r = (drive_of rows at.owner).0;
  arrival = arrival_of rows at;
  limit = None;
}

-- or a pin, whose delay and resistance are given, else the net is refused
abbrev pub pin_driver : Design → Joined → NodeName → Driver
pin_driver d n at = record {
  k = pos (unwrap_or (pin_drive_of d n at) (0, 0)).0;
  r = (unwrap_or (pin_drive_of d n at) (0, 0)).1;
  arrival = arrival_of d.rows at;
  limit = pin_limit_of d n at;
}

abbrev pub driver_at : Design → Joined → NodeName → Driver
driver_at d n at = if is_port at then port_driver d.rows at else pin_driver d n at
