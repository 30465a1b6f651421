-- Nodes whose rows are kept in order: the owners, and for each of them its leaves.
use Rattle.std.specs.Prelude.{◌≡◌, ℕ, ◌<◌, List, Option, None, Some, IfSome, length}
use Rattle.std.specs.List.{slice_get}
use Rattle.vg_scan.specs.declared.name.NodeName.{NodeName}
use Rattle.name_tables.specs.OrderedRows.{row_kept}
use Rattle.name_tables.specs.declared.ordered_rows.OrderedRows.{OrderedRows}
use Rattle.spef_nodes.specs.declared.ordered_nodes.OrderedNodes.{OrderedNodes}

-- the row that is kept by a leaf, among those of its owner, if there are some
abbrev pub row_among : Option OrderedRows → List ℕ → Option ℕ
row_among None leaf = None
row_among (Some rows) leaf = row_kept rows leaf

abbrev pub rows_at : List OrderedRows → Option ℕ → Option OrderedRows
rows_at places None = None
rows_at places (Some place) = slice_get places place

-- the row that is kept by a node, if one is
unfoldable pub node_row : OrderedNodes → NodeName → Option ℕ
node_row ordered node = row_among (rows_at ordered.leaves.items (row_kept ordered.owners node.owner)) node.leaf

-- each owner has a place for its leaves, and no two have the same
pub record HavePlaces (ordered : OrderedNodes) : Type 0 where
  pub within : (owner : List ℕ) → IfSome (row_kept ordered.owners owner) (λ place. place < length ordered.leaves.items)
  pub own : (owner other : List ℕ) (place : ℕ) → row_kept ordered.owners owner ≡ Some place
      → row_kept ordered.owners other ≡ Some place → owner ≡ other
