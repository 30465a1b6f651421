-- Nets as a walk comes to them.
use Rattle.std.specs.Prelude.{◌≡◌, ℕ, List, [], map, slice_index, slice_get, Option, Some, None, option_map, unwrap_or}
use Rattle.elmore.specs.declared.parts.Driver.{Driver}
use Rattle.elmore.specs.declared.tree.Node.{Node}
use Rattle.cut_laws.specs.Walks.{End, nothing, sink, passes, TimedNet}
use Rattle.vg_design.specs.Designs.{Design, Joined, name_of}
use Rattle.vg_design.specs.Nets.{names_of}
use Rattle.vg_design.specs.Parts.{driver_of, loaded_tree}
use Rattle.vg_design.specs.Refusals.{IsJoined}
use Rattle.vg_scan.specs.declared.name.NodeName.{NodeName}
use Rattle.spef_wire.specs.Refusals.{IsNetTree}
use Rattle.vg_retime.specs.Passages.{above_at, end_in}
use Rattle.vg_retime.specs.Refusals.{PassesHere}
use Rattle.vg_retime.specs.declared.walk_net.Above.{Above}
use Rattle.vg_retime.specs.declared.walk_net.Above.TheVariants.{First, Net, Open}
use Rattle.vg_retime.specs.declared.walk_net.End.{End as EndHere}
use Rattle.vg_retime.specs.declared.walk_net.End.TheVariants.{Nothing, Sink, Passes}

-- A net as a walk comes to it: its tree with the loads of its sinks, what stands at each node of the tree and how it is
-- named, what drives the net, and what is above it.
pub record WalkNet : Type 0 where
  pub tree : List Node
  pub ends : List End
  pub names : List NodeName
  pub driver : Driver
  pub above : Above

-- what stands at a node, as the net keeps it
abbrev pub walk_end : EndHere → End
walk_end Nothing = nothing
walk_end (Sink goal) = sink goal
walk_end (Passes rep next) = passes rep next

abbrev pub net_above : Above → Option ℕ
net_above First = None
net_above (Net next) = Some next
net_above Open = None

-- the net, as it is timed
abbrev pub timed : WalkNet → TimedNet
timed net = record { tree = net.tree; ends = net.ends; above = net_above net.above }

-- this is a net of a design
pub record IsWalkNet (d : Design) (prefix : List ℕ) (n : Joined) (net : WalkNet) : Type 0 where
  pub tree : List Node
  pub order : List ℕ
  pub a_tree : IsNetTree n.par tree order
  pub tree_is : net.tree ≡ loaded_tree d n tree order
  pub ends_are : net.ends ≡ map (end_in d prefix n) order
  pub names_are : net.names ≡ names_of n.par order
  pub driver_is : net.driver ≡ driver_of d n order
  pub above_is : net.above ≡ above_at d prefix n (name_of n.par (slice_index order 0))

-- the name of the net of this number
abbrev pub net_name : Design → ℕ → List ℕ
net_name d id = unwrap_or (option_map (λ net. net.name) (slice_get d.netlist.nets id)) []

-- the net of this name, which no refusal of a number below k refuses
pub record IsNetOf (k : ℕ) (d : Design) (prefix name : List ℕ) (net : WalkNet) : Type 0 where
  pub accepted : PassesHere k d prefix name
  pub joined : Joined
  pub is_joined : IsJoined d name joined
  pub net_is : IsWalkNet d prefix joined net

-- the same of the net of this number
abbrev pub IsNetIn : ℕ → Design → List ℕ → ℕ → WalkNet → Type 0
IsNetIn k d prefix id net = IsNetOf k d prefix (net_name d id) net
