-- Nodes that are being put together.
use Rattle.std.specs.Prelude.{◌≡◌, ℕ, ◌≤◌, Bool, List, length}
use Rattle.spef_nodes.specs.Nodes.{ParNode, Note, fresh, note_at, noted_all, noted}
use Rattle.spef_nodes.specs.NodeTables.{nodes_in}
use Rattle.vg_scan.specs.declared.name.NodeName.{NodeName}
use Rattle.vg_segment.specs.declared.nodes.NodeList.{NodeList}

-- the nodes so far
abbrev pub listed : NodeList → List ParNode
listed list = noted_all (nodes_in list.owners list.leaves) list.notes

-- each node has an owner and a leaf, and nothing is noted past the last one
pub record IsReady (list : NodeList) : Type 0 where
  pub even : length list.owners ≡ length list.leaves
  pub later : (i : ℕ) → length list.owners ≤ i → note_at list.notes i ≡ fresh

-- what is noted makes these of a node
abbrev pub IsNotedAs : Note → Bool → List ℕ → Type 0
IsNotedAs note inner text = (name : NodeName) → noted name note ≡ record { name = name; inner = inner; note = text }
