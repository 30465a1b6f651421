-- The wire delays of a net.
use Rattle.std.specs.Prelude.{◌≡◌, ℕ, ℤ, pos, ◌==◌, ◌&&◌, Bool, false, List, filter, length, slice_index, slice_index_or}
use Rattle.std.specs.List.{list_any, sum_by, range_with_len, AllZip}
use Rattle.elmore.specs.Wire.{delay_in}
use Rattle.elmore.specs.declared.tree.Node.{Node}
use Rattle.vg_scan.specs.declared.name.NodeName.{NodeName}
use Rattle.spef_net.specs.declared.net.ParNet.{ParNet}
use Rattle.spef_wire.specs.declared.wire.WireNet.{WireNet}
use Rattle.spef_wire.specs.Refusals.{is_sink, IsNamed, IsNetTree, PassesUpTo}
use Rattle.spef_wire.specs.Nets.{IsNetNamed}

-- the net's node v is that of a sink
abbrev pub is_sink_node : ParNet → ℕ → Bool
is_sink_node net v = list_any (λ conn. is_sink conn && (conn.node == v)) net.conns

-- for each node of a net whether a sink is there
pub record AreMarks (net : ParNet) (marks : List Bool) : Type 0 where
  pub one_each : length marks ≡ length net.nodes
  pub each : (v : ℕ) → slice_index_or marks v false ≡ is_sink_node net v

-- the sinks as nodes of the tree, in tree order
abbrev pub sinks_in : ParNet → List ℕ → List ℕ
sinks_in net order = filter (λ i. is_sink_node net (slice_index order i)) (range_with_len 0 (length order))

-- the name and the wire delay (zs) of a node of the tree
pub record IsDelay (net : ParNet) (tree : List Node) (order : List ℕ) (i : ℕ) (row : NodeName × ℤ) : Type 0 where
  pub named : IsNamed net (slice_index order i) row.0
  pub delay : row.1 ≡ pos (delay_in tree i)

-- all capacitors of a net together (aF), and each sink with its delay in tree order
pub record IsWire (net : ParNet) (wire : WireNet) : Type 0 where
  pub tree : List Node
  pub order : List ℕ
  pub a_tree : IsNetTree net tree order
  pub total : wire.total ≡ sum_by (λ cap. cap.1) net.caps
  pub sinks : AllZip (IsDelay net tree order) (sinks_in net order) wire.sinks

-- the net of this name, which nothing refuses, has these wire delays
pub record IsWireOf (text name : List ℕ) (wire : WireNet) : Type 0 where
  pub net : ParNet
  pub named : IsNetNamed text name net
  pub accepted : PassesUpTo 17 net
  pub wire_is : IsWire net wire

-- the net of this name has this tree: all is right but for the limits
pub record IsTreeNamed (text name : List ℕ) (net : ParNet) (tree : List Node) (order : List ℕ) : Type 0 where
  pub named : IsNetNamed text name net
  pub accepted : PassesUpTo 15 net
  pub a_tree : IsNetTree net tree order
