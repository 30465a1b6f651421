-- The names of ports and nodes: a node's text has an owner and a leaf, parted by its last unescaped delimiter.
use Rattle.std.specs.Prelude.{ℕ, ◌+◌, ◌&&◌, Bool, List, [], length, take, drop, Option, Some, None}
use Rattle.std.specs.List.{list_any}
use Rattle.std.specs.Map.{lookup}
use Rattle.std.specs.Str.{bytes_eq}
use Rattle.vg_scan.specs.declared.chars.Chars.{Chars}
use Rattle.vg_scan.specs.declared.name.NodeName.{NodeName}
use Rattle.vg_scan.specs.Names.{canonical, last_bare}

-- the same owner, and the same leaf
abbrev pub same_node : NodeName → NodeName → Bool
same_node a b = bytes_eq a.owner b.owner && bytes_eq a.leaf b.leaf

abbrev pub has_node : List NodeName → NodeName → Bool
has_node nodes node = list_any (same_node node) nodes

-- what a list of rows has for a node
abbrev pub node_value : {V : Type 0} → List (NodeName × V) → NodeName → Option V
node_value rows node = lookup (same_node node) rows

-- the node of an owner and a leaf, if both are names
abbrev pub node_of_parts : Option (List ℕ) → Option (List ℕ) → Option NodeName
node_of_parts (Some owner) (Some leaf) = Some (record { owner = owner; leaf = leaf })
node_of_parts (Some _) None = None
node_of_parts None _ = None

-- where the text's last unescaped delimiter stands
abbrev pub leaf_at : Chars → List ℕ → Option ℕ
leaf_at chars text = last_bare chars.delimiter text (length text)

-- the node of the text's parts before and after this place
-- a leaf is no index: one that begins with `*` is kept as its bytes
abbrev pub parted_at : Chars → List ℕ → ℕ → Option NodeName
parted_at chars text at = node_of_parts (canonical chars (take at text)) (canonical chars (drop (at + 1) text))

abbrev pub port_without : Chars → List ℕ → Option ℕ → Option (List ℕ)
port_without chars text None = canonical chars text
port_without chars text (Some _) = None

abbrev pub inner_with : Chars → List ℕ → Option ℕ → Option NodeName
inner_with chars text None = None
inner_with chars text (Some at) = parted_at chars text at

abbrev pub node_with : Chars → List ℕ → Option ℕ → Option NodeName
node_with chars text None = node_of_parts (canonical chars text) (Some [])
node_with chars text (Some at) = parted_at chars text at

-- the name of a port: it has no delimiter
unfoldable pub port_of : Chars → List ℕ → Option (List ℕ)
port_of chars text = port_without chars text (leaf_at chars text)

-- the node of a text that has a delimiter
unfoldable pub inner_of : Chars → List ℕ → Option NodeName
inner_of chars text = inner_with chars text (leaf_at chars text)

-- the node of either text; a port's leaf is empty
unfoldable pub node_of : Chars → List ℕ → Option NodeName
node_of chars text = node_with chars text (leaf_at chars text)
