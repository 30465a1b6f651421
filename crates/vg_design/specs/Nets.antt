-- The problem of a net, its parts without constraints, and its slack without cells.
use Rattle.std.specs.Prelude.{◌≡◌, ℕ, List, map, filter, length, slice_index, slice_index_or, ℤ, Option, None, option_map, MatchOption}
use Rattle.std.specs.List.{range_with_len}
use Rattle.elmore.specs.Placements.{IsSlack, HasPolarity, IsFirstWrong}
use Rattle.elmore.specs.declared.problem.Problem.{Problem}
use Rattle.elmore.specs.declared.tree.Node.{Node}
use Rattle.spef_net.specs.declared.net.ParNet.{ParNet}
use Rattle.vg_scan.specs.declared.name.NodeName.{NodeName}
use Rattle.spef_wire.specs.Refusals.{IsNetTree}
use Rattle.spef_wire.specs.Wires.{is_sink_node}
use Rattle.spef_wire.specs.declared.refusal.Refused.{Refused}
use Rattle.spef_wire.specs.declared.refusal.Refused.TheVariants.{Net, Memory}
use Rattle.vg_cons.specs.Rows.{required_of}
use Rattle.vg_design.specs.Designs.{Design, Joined, NO_NODE, name_of, pin_on}
use Rattle.vg_design.specs.Parts.{loaded_tree, driver_of, IsProblemOf}
use Rattle.vg_design.specs.Refusals.{IsJoined, PassesUpTo, PassesBareUpTo, IsFirstRefusal, IsFirstBareRefusal}
use Rattle.vg_design.specs.Steps.{IsReady}
use Rattle.vg_design.specs.declared.net_problem.NetProblem.{NetProblem}
use Rattle.vg_design.specs.declared.net_problem.PosedNet.{PosedNet}
use Rattle.vg_design.specs.declared.bare_parts.BareNet.{BareNet}
use Rattle.vg_design.specs.declared.time.Timed.{Timed}

-- the names of the nodes of a tree
abbrev pub names_of : ParNet → List ℕ → List NodeName
names_of net order = map (name_of net) order

-- the name of a node of a tree
abbrev pub name_at : List NodeName → ℕ → NodeName
name_at names i = slice_index_or names i NO_NODE.name

-- The net of this name, which nothing refuses, has this problem, whose nodes have these names. Tree node i is the net's
-- node order[i].
pub record IsNetProblem (d : Design) (name : List ℕ) (found : NetProblem) : Type 0 where
  pub accepted : PassesUpTo 17 d name
  pub net : Joined
  pub joined : IsJoined d name net
  pub tree : List Node
  pub order : List ℕ
  pub a_tree : IsNetTree net.par tree order
  pub problem : IsProblemOf d net tree order found.problem
  pub names : found.names ≡ names_of net.par order

-- the net of this name, which nothing refuses, with its pins, its tree and its problem
pub record IsPosedNet (d : Design) (name : List ℕ) (posed : PosedNet) : Type 0 where
  pub accepted : PassesUpTo 17 d name
  pub joined : IsJoined d name posed.ready.pinned.net
  pub ready : IsReady d posed.ready.pinned.net posed.ready.pinned.pins posed.ready.tree.nodes posed.ready.order
  pub problem : IsProblemOf d posed.ready.pinned.net posed.ready.tree.nodes posed.ready.order posed.problem

-- the sinks as nodes of the tree, in tree order
abbrev pub sink_nodes : ParNet → List ℕ → List ℕ
sink_nodes net order = filter (λ i. is_sink_node net (slice_index order i)) (range_with_len 0 (length order))

-- The net of this name, which nothing refuses but the constraints, has this tree and driver, whose nodes have these
-- names, and these sinks. Each sink is a pin of the netlist, or a port, and has a required time where the constraints
-- give one.
pub record IsBareNet (d : Design) (name : List ℕ) (bare : BareNet) : Type 0 where
  pub accepted : PassesBareUpTo 17 d name
  pub net : Joined
  pub joined : IsJoined d name net
  pub tree : List Node
  pub order : List ℕ
  pub a_tree : IsNetTree net.par tree order
  pub tree_is : bare.tree.nodes ≡ loaded_tree d net tree order
  pub driver : bare.driver ≡ driver_of d net order
  pub names : bare.names ≡ names_of net.par order
  pub sinks : bare.sinks ≡ sink_nodes net.par order
  pub pins : bare.pins ≡ map (λ u. pin_on d.netlist net.id (name_at bare.names u)) bare.sinks
  pub required : bare.required ≡ map (λ u. required_of d.rows (name_at bare.names u)) bare.sinks

-- ---- without cells

-- no node has a cell
pub record IsBare (p : Problem) (cells : List (Option ℕ)) : Type 0 where
  pub one_each : length cells ≡ length p.tree.nodes
  pub none : (v : ℕ) → slice_index_or cells v None ≡ None

-- x is the slack of the problem without cells (zs), and wrong its first sink of the wrong polarity, if there is one
pub record IsBareTiming (p : Problem) (x : ℤ) (wrong : Option ℕ) : Type 0 where
  pub cells : List (Option ℕ)
  pub bare : IsBare p cells
  pub slack : IsSlack p cells x
  pub polarity : MatchOption wrong ((w : ℕ) → HasPolarity p cells w) (IsFirstWrong p cells)

-- the net of this name has this slack, and this is the name of its first sink of the wrong polarity
pub record IsTimedOf (d : Design) (name : List ℕ) (timed : Timed) : Type 0 where
  pub found : NetProblem
  pub problem : IsNetProblem d name found
  pub wrong : Option ℕ
  pub timing : IsBareTiming found.problem timed.slack wrong
  pub named : timed.wrong ≡ option_map (name_at found.names) wrong

-- ---- or why there is none

abbrev pub IsRefused : Design → List ℕ → Refused → Type 0
IsRefused d name (Net refusal) = IsFirstRefusal d name refusal
IsRefused d name Memory = Unit {0}

abbrev pub IsBareRefused : Design → List ℕ → Refused → Type 0
IsBareRefused d name (Net refusal) = IsFirstBareRefusal d name refusal
IsBareRefused d name Memory = Unit {0}
