-- The nodes of a table, and their rows.
use Rattle.std.specs.Prelude.{◌≡◌, ℕ, ◌+◌, ◌*◌, ◌%◌, ◌^◌, ◌<◌, List, [], ◌∷◌, length, slice_index_or}
use Rattle.std.specs.List.{fold}
use Rattle.vg_scan.specs.declared.name.NodeName.{NodeName}
use Rattle.name_tables.specs.Chains.{buckets_of}
use Rattle.name_tables.specs.Filed.{AreFiled}
use Rattle.spef_nodes.specs.Members.{node_named}
use Rattle.spef_nodes.specs.OrderedNodes.{node_row, HavePlaces}
use Rattle.spef_nodes.specs.declared.node_rows.NodeRows.{NodeRows}
use Rattle.spef_nodes.specs.declared.node_table.Table.{Table}

-- a hash, with one byte more
abbrev pub hash_with : ℕ → ℕ → ℕ
hash_with hash byte = (hash * 11 + byte) % 2 ^ 32

-- the hash of a node, from those of its owner and its leaf
unfoldable pub node_hash : NodeName → ℕ
node_hash node = (fold hash_with 0 node.owner * 31 + fold hash_with 0 node.leaf) % 2 ^ 32

-- the nodes of these owners and leaves
unfoldable pub nodes_in : List (List ℕ) → List (List ℕ) → List NodeName
nodes_in (owner ∷ owners) (leaf ∷ leaves) = record { owner = owner; leaf = leaf } ∷ nodes_in owners leaves
nodes_in _ _ = []

-- the nodes of a table
abbrev pub nodes_of : Table → List NodeName
nodes_of table = nodes_in table.owners table.leaves

-- the node of a number, by its owner and its leaf
abbrev pub node_at : List (List ℕ) → List (List ℕ) → ℕ → NodeName
node_at owners leaves at = node_named (slice_index_or owners at []) (slice_index_or leaves at [])

-- each of these nodes is in the chain of its hash, or kept in order
pub record AreRows (nodes : List NodeName) (rows : NodeRows) : Type 0 where
  pub filed : AreFiled node_hash (node_row rows.ordered) nodes rows.chains
  pub places : HavePlaces rows.ordered

-- one owner and one leaf for each node, and the rows of the nodes
pub record IsTable (owners leaves : List (List ℕ)) (rows : NodeRows) : Type 0 where
  pub some : 0 < buckets_of rows.chains
  pub even : length owners ≡ length leaves
  pub rows_are : AreRows (nodes_in owners leaves) rows
