-- The names of nodes, and lists of them.
use Rattle.std.specs.Prelude.{ℕ, ◌+◌, ◌||◌, Bool, List, [], take, drop, Option, Some, None, if◌then◌else◌}
use Rattle.std.specs.Map.{lookup}
use Rattle.std.specs.Str.{bytes_eq}
use Rattle.vg_scan.specs.Names.{canonical}
use Rattle.vg_scan.specs.Nodes.{has_node, node_of_parts, leaf_at}
use Rattle.vg_scan.specs.References.{is_reference, index_of}
use Rattle.vg_scan.specs.declared.name.NodeName.{NodeName}
use Rattle.spef_file.specs.Files.{File}
use Rattle.spef_nodes.specs.Members.{is_inner}

-- a node is the net's where it is one of its connections or inside it
abbrev pub is_own : List NodeName → List ℕ → NodeName → Bool
is_own connected net node = has_node connected node || is_inner net node

-- the name that an index stands for
abbrev pub indexed : List (List ℕ × List ℕ) → Option (List ℕ) → Option (List ℕ)
indexed names None = None
indexed names (Some digits) = lookup (bytes_eq digits) names

-- the name that a text or an index stands for
unfoldable pub owner_in : File → List ℕ → Option (List ℕ)
owner_in file text = if is_reference text then indexed file.names (index_of text) else canonical file.chars text

abbrev pub node_split : File → List ℕ → Option ℕ → Option NodeName
node_split file text None = node_of_parts (owner_in file text) (Some [])
node_split file text (Some at) =
    node_of_parts (owner_in file (take at text)) (canonical file.chars (drop (at + 1) text))

-- the node that a text names: the owner before its last unescaped delimiter may be an index, the leaf after it may not.
-- A port has no delimiter, and its leaf is empty
unfoldable pub node_in : File → List ℕ → Option NodeName
node_in file text = node_split file text (leaf_at file.chars text)
