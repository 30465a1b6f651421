-- The net that lines without a fault denote.
use Rattle.std.specs.Prelude.{◌≡◌, ℕ, not, Bool, List, [], map, is_some, unwrap_or, Option, Some}
use Rattle.std.specs.List.{slice_get}
use Rattle.std.specs.Option.{option_or}
use Rattle.vg_scan.specs.declared.name.NodeName.{NodeName}
use Rattle.spef_net.specs.declared.net.ConnKind.{ConnKind}
use Rattle.spef_net.specs.declared.net.Direction.{Direction}
use Rattle.spef_net.specs.declared.net.ParConn.{ParConn}
use Rattle.spef_nodes.specs.Nodes.{ParNode}
use Rattle.spef_net.specs.declared.net.ParNet.{ParNet}
use Rattle.vg_scan.specs.Nodes.{node_value}
use Rattle.spef_net.specs.Statements.{Stated}
use Rattle.spef_net.specs.Rows.{joined_of, starred_of, connected_of, conns_of, caps_of, ress_of, nodes_of, is_inductive}

-- a node with its note: its connection's, or that of its first `*N` line
abbrev pub described : List (NodeName × List ℕ) → List (NodeName × List ℕ) → NodeName → ParNode
described joined starred node = record {
  name = node;
  inner = not (is_some (node_value joined node));
  note = unwrap_or (option_or (node_value joined node) (node_value starred node)) [];
}

-- rows of numbers, with the nodes that have them
abbrev pub conn_at : List NodeName → ParConn → ConnKind × Option NodeName × Direction
conn_at nodes conn = (conn.kind, slice_get nodes conn.node, conn.direction)

abbrev pub cap_at : List NodeName → ℕ × ℕ → Option NodeName × ℕ
cap_at nodes cap = (slice_get nodes cap.0, cap.1)

abbrev pub res_at : List NodeName → ℕ × ℕ × ℕ → Option NodeName × Option NodeName × ℕ
res_at nodes res = (slice_get nodes res.0, slice_get nodes res.1, res.2)

-- numbers stand for the nodes of these rows
abbrev pub AreConns : List NodeName → List ParConn → List (ConnKind × NodeName × Direction) → Type 0
AreConns nodes conns rows = map (conn_at nodes) conns ≡ map (λ row. (row.0, Some row.1, row.2)) rows

abbrev pub AreCaps : List NodeName → List (ℕ × ℕ) → List (NodeName × ℕ) → Type 0
AreCaps nodes caps rows = map (cap_at nodes) caps ≡ map (λ row. (Some row.0, row.1)) rows

abbrev pub AreRess : List NodeName → List (ℕ × ℕ × ℕ) → List (NodeName × NodeName × ℕ) → Type 0
AreRess nodes ress rows = map (res_at nodes) ress ≡ map (λ row. (Some row.0, Some row.1, row.2)) rows

abbrev pub all_nodes : List ℕ → List Stated → List NodeName
all_nodes net lines = nodes_of (connected_of lines) net lines

-- the net of this name is what the lines denote
pub record IsNet (name : List ℕ) (reduced : Bool) (lines : List Stated) (net : ParNet) : Type 0 where
  pub named : net.name ≡ name
  pub nodes : net.nodes ≡ map (described (joined_of lines) (starred_of lines)) (all_nodes name lines)
  pub conns : AreConns (all_nodes name lines) net.conns (conns_of lines)
  pub caps : AreCaps (all_nodes name lines) net.caps (caps_of (connected_of lines) name lines)
  pub ress : AreRess (all_nodes name lines) net.ress (ress_of lines)
  pub is_reduced : net.reduced ≡ reduced
  pub is_inductive : net.inductive ≡ is_inductive lines
