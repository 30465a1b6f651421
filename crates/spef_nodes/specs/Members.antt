-- Which nodes are a net's, and lists of them.
use Rattle.std.specs.Prelude.{◌≡◌, ℕ, ◌&&◌, ◌||◌, ◌++◌, Bool, true, false, List, [], ◌∷◌, Option, Some, None, Result, Ok, Err, if◌then◌else◌}
use Rattle.std.specs.List.{fold, slice_get}
use Rattle.std.specs.Str.{bytes_eq}
use Rattle.vg_num.specs.Number.{are_digits}
use Rattle.vg_num.specs.declared.memory.Memory.{Memory}
use Rattle.vg_scan.specs.Nodes.{has_node}
use Rattle.vg_scan.specs.declared.name.NodeName.{NodeName}

-- the node of an owner and a leaf
abbrev pub node_named : List ℕ → List ℕ → NodeName
node_named owner leaf = record { owner = owner; leaf = leaf }

-- the nodes, with this one last where it is new
abbrev pub with_node : List NodeName → NodeName → List NodeName
with_node nodes node = if has_node nodes node then nodes else nodes ++ node ∷ []

-- each node once, where it comes first
abbrev pub distinct : List NodeName → List NodeName
distinct nodes = fold with_node [] nodes

-- no node of a list is another one of it
abbrev pub AreApart : List NodeName → Type 0
AreApart [] = Unit {0}
AreApart (node ∷ nodes) = (has_node nodes node ≡ false) × AreApart nodes

-- a node inside the net of this name: the net owns it, and its leaf is a number
abbrev pub is_inner : List ℕ → NodeName → Bool
is_inner net node = bytes_eq node.owner net && are_digits node.leaf

-- a node is the net's by what is known: it is in the list, or inside the net
abbrev pub is_known : List NodeName → List ℕ → NodeName → Bool
is_known nodes net node = has_node nodes node || is_inner net node

-- the number of a node that is the net's, which is put last where it is new; none where it is another net's
abbrev pub Owns : Result (Option ℕ) Memory → List ℕ → List NodeName → NodeName → List NodeName → Type 0
Owns (Ok (Some id)) net old node new =
    (is_known old net node ≡ true) × (slice_get (with_node old node) id ≡ Some node) × (new ≡ with_node old node)
Owns (Ok None) net old node new = (is_known old net node ≡ false) × (new ≡ old)
Owns (Err _) net old node new = Unit {0}
