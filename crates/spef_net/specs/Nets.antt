-- What the type of a net keeps.
use Rattle.std.specs.Prelude.{◌≡◌, ◌≢◌, ℕ, ◌-◌, ◌<◌, ◌≤◌, ◌^◌, not, Bool, true, false, List, length, slice_index, Some}
use Rattle.std.specs.List.{All, AllPairs, AllPass, slice_get}
use Rattle.vg_scan.specs.Lines.{is_newline}
use Rattle.vg_scan.specs.Printed.{is_solid, IsPrintable}
use Rattle.spef_nodes.specs.Members.{is_inner}
use Rattle.spef_nodes.specs.Nodes.{ParNode}
use Rattle.spef_net.specs.declared.net.ParConn.{ParConn}
use Rattle.spef_net.specs.Lines.{is_space}
use Rattle.spef_net.specs.Statements.{is_at}

-- the owner of a node can be a word, and its leaf has no blank and no newline
abbrev pub IsNamed : ParNode → Type 0
IsNamed node = IsPrintable node.name.owner × AllPass is_solid node.name.leaf

-- no two nodes have the same name
abbrev pub AreDistinct : List ParNode → Type 0
AreDistinct nodes = AllPairs (λ node other. node.name ≢ other.name) nodes

-- a node that is no connection has the net's name as owner, and a leaf of digits
abbrev pub IsInside : List ℕ → ParNode → Type 0
IsInside net node = node.inner ≡ true → is_inner net node.name ≡ true

-- the node of a connection has a leaf at a pin, and none at a port
abbrev pub IsEnd : ParConn → ParNode → Type 0
IsEnd conn node = (node.inner ≡ false) × (is_at conn.kind node.name ≡ true)

-- the nodes of the connections stand first, in order, and the others are no connections
pub record AreJoined (conns : List ParConn) (nodes : List ParNode) : Type 0 where
  pub few : length conns ≤ length nodes
  pub numbers : (i : ℕ) (conn : ParConn) → slice_get conns i ≡ Some conn → conn.node ≡ i
  pub ends : (i : ℕ) (conn : ParConn) (node : ParNode) → slice_get conns i ≡ Some conn
      → slice_get nodes i ≡ Some node → IsEnd conn node
  pub inner : (i : ℕ) (node : ParNode) → length conns ≤ i → slice_get nodes i ≡ Some node → node.inner ≡ true

-- a byte that does not end a line
abbrev pub in_line : ℕ → Bool
in_line b = not (is_newline b)

-- a note is on one line, and has no blank and no carriage return at its ends
pub record IsNote (text : List ℕ) : Type 0 where
  pub one_line : AllPass in_line text
  pub begins : 0 < length text → is_space (slice_index text 0) ≡ false
  pub ends : 0 < length text → is_space (slice_index text (length text - 1)) ≡ false

-- a capacitor is at one of so many nodes, and has at most 10^15
abbrev pub IsCapOf : ℕ → ℕ × ℕ → Type 0
IsCapOf count cap = (cap.0 < count) × (cap.1 ≤ 10 ^ 15)

-- a resistor is between two of so many nodes, and has at most 10^15
abbrev pub IsResOf : ℕ → ℕ × ℕ × ℕ → Type 0
IsResOf count res = (res.0 < count) × (res.1 < count) × (res.2 ≤ 10 ^ 15)

-- a net of this name may have these nodes, connections, capacitors and resistors
pub record IsSound (name : List ℕ) (nodes : List ParNode) (conns : List ParConn) (caps : List (ℕ × ℕ))
    (ress : List (ℕ × ℕ × ℕ)) : Type 0 where
  pub named : IsPrintable name
  pub nodes_named : All IsNamed nodes
  pub distinct : AreDistinct nodes
  pub joined : AreJoined conns nodes
  pub inside : All (IsInside name) nodes
  pub notes : All (λ node. IsNote node.note) nodes
  pub caps_at : All (IsCapOf (length nodes)) caps
  pub ress_at : All (IsResOf (length nodes)) ress
