-- Why a net is refused: by its parasitics alone.
use Rattle.std.specs.Prelude.{◌≡◌, ℕ, ◌<◌, ◌≤◌, ◌^◌, not, Bool, true, false, List, [], ◌∷◌, length, filter, Some}
use Rattle.std.specs.List.{list_any, slice_get}
use Rattle.elmore.specs.Trees.{IsWithinLimits}
use Rattle.elmore.specs.declared.tree.Node.{Node}
use Rattle.rc_tree.specs.Faults.{IsLeastFloating, HasLoop}
use Rattle.rc_tree.specs.Answers.{IsTreeOf}
use Rattle.vg_scan.specs.declared.name.NodeName.{NodeName}
use Rattle.spef_net.specs.declared.net.ConnKind.{ConnKind}
use Rattle.spef_net.specs.declared.net.ConnKind.TheVariants.{Pin, Port}
use Rattle.spef_net.specs.declared.net.Direction.{Direction}
use Rattle.spef_net.specs.declared.net.Direction.TheVariants.{In, Out, Both}
use Rattle.spef_net.specs.declared.net.ParConn.{ParConn}
use Rattle.spef_nodes.specs.Nodes.{ParNode}
use Rattle.spef_net.specs.declared.net.ParNet.{ParNet}
use Rattle.spef_wire.specs.declared.refusal.Refusal.{Refusal}
use Rattle.spef_wire.specs.declared.refusal.Refusal.TheVariants.{UnknownNet, Section, Reduced, Inductive, Bidirectional, NoDriver, ManyDrivers, Mismatch, Tied, NoDrive, NoLoad, Floating, Loop, NoSink, Unconstrained, TooLarge}

-- the order of refusals
abbrev pub number_of : Refusal → ℕ
number_of UnknownNet = 1
number_of (Section _) = 2
number_of Reduced = 3
number_of Inductive = 4
number_of Bidirectional = 5
number_of NoDriver = 6
number_of ManyDrivers = 7
number_of Mismatch = 8
number_of Tied = 9
number_of NoDrive = 10
number_of (NoLoad _) = 11
number_of (Floating _) = 12
number_of Loop = 13
number_of NoSink = 14
number_of (Unconstrained _) = 15
number_of TooLarge = 16

-- the most nodes of a net, and the most capacitors
abbrev pub most_nodes : ℕ
most_nodes = 65536

abbrev pub most_capacitors : ℕ
most_capacitors = 2 ^ 20

-- a connection drives the net: the output of an instance, or an input of the design
abbrev pub drives_at : ConnKind → Direction → Bool
drives_at Pin Out = true
drives_at Port In = true
drives_at _ _ = false

abbrev pub drives : ParConn → Bool
drives conn = drives_at conn.kind conn.direction

abbrev pub is_both : Direction → Bool
is_both Both = true
is_both _ = false

abbrev pub goes_both_ways : ParConn → Bool
goes_both_ways conn = is_both conn.direction

abbrev pub is_sink : ParConn → Bool
is_sink conn = not (drives conn)

abbrev pub drivers_of : ParNet → List ParConn
drivers_of net = filter drives net.conns

-- one connection alone drives the net, at this node
pub record IsDrivenAt (net : ParNet) (root : ℕ) : Type 0 where
  pub driver : ParConn
  pub alone : drivers_of net ≡ driver ∷ []
  pub at : driver.node ≡ root

-- the net's tree: tree node i is the net's node order[i]
pub record IsNetTree (net : ParNet) (tree : List Node) (order : List ℕ) : Type 0 where
  pub root : ℕ
  pub driven : IsDrivenAt net root
  pub a_tree : IsTreeOf (length net.nodes) root net.caps net.ress tree order

-- the name of a node
pub record IsNamed (net : ParNet) (v : ℕ) (name : NodeName) : Type 0 where
  pub node : ParNode
  pub at : slice_get net.nodes v ≡ Some node
  pub name_is : name ≡ node.name

-- at most 65,536 nodes and 2^20 capacitors, and a tree within the limits of resistance and capacitance
pub record IsWithinNetLimits (net : ParNet) (tree : List Node) : Type 0 where
  pub nodes : length net.nodes ≤ most_nodes
  pub capacitors : length net.caps ≤ most_capacitors
  pub sums : IsWithinLimits tree

-- the first node that floats has this name
pub record IsFirstFloating (net : ParNet) (name : NodeName) : Type 0 where
  pub root : ℕ
  pub driven : IsDrivenAt net root
  pub v : ℕ
  pub floating : IsLeastFloating (length net.nodes) net.ress root v
  pub named : IsNamed net v name

-- no node floats, and it is no tree
pub record IsLooped (net : ParNet) : Type 0 where
  pub root : ℕ
  pub driven : IsDrivenAt net root
  pub loop : HasLoop (length net.nodes) net.ress root

-- its tree passes a limit
pub record IsPastLimits (net : ParNet) : Type 0 where
  pub tree : List Node
  pub order : List ℕ
  pub a_tree : IsNetTree net tree order
  pub past : IsWithinNetLimits net tree → ⊥

-- the condition of a refusal by the parasitics alone, for a net that is there and whose lines have no fault; the other
-- refusals need the other files of a design
abbrev pub Refuses : ParNet → Refusal → Type 0
Refuses net Mismatch = ⊥
Refuses net Tied = ⊥
Refuses net NoDrive = ⊥
Refuses net (NoLoad _) = ⊥
Refuses net (Unconstrained _) = ⊥
Refuses net UnknownNet = ⊥
Refuses net (Section _) = ⊥
Refuses net Reduced = net.reduced ≡ true
Refuses net Inductive = net.inductive ≡ true
Refuses net Bidirectional = list_any goes_both_ways net.conns ≡ true
Refuses net NoDriver = drivers_of net ≡ []
Refuses net ManyDrivers = 1 < length (drivers_of net)
Refuses net (Floating name) = IsFirstFloating net name
Refuses net Loop = IsLooped net
Refuses net NoSink = list_any is_sink net.conns ≡ false
Refuses net TooLarge = IsPastLimits net

-- no refusal of a smaller number has its condition
abbrev pub PassesUpTo : ℕ → ParNet → Type 0
PassesUpTo n net = (refusal : Refusal) → number_of refusal < n → Refuses net refusal → ⊥

-- a net is refused by the first refusal whose condition holds
pub record IsFirstRefusal (net : ParNet) (refusal : Refusal) : Type 0 where
  pub holds : Refuses net refusal
  pub first : PassesUpTo (number_of refusal) net
