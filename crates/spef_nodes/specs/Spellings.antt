-- Names as texts spell them.
use Rattle.std.specs.Prelude.{◌≡◌, ℕ, ◌==◌, ◌||◌, not, Bool, true, false, slice_index, List, Option, Some, None, Result, Ok, Err, if◌then◌else◌}
use Rattle.vg_scan.specs.declared.chars.Chars.{Chars}
use Rattle.vg_scan.specs.declared.fault.NameFault.{NameFault}
use Rattle.vg_scan.specs.declared.fault.NameFault.TheVariants.{Bad, Memory}
use Rattle.vg_scan.specs.declared.name.NodeName.{NodeName}
use Rattle.vg_scan.specs.Names.{is_backslash, is_quote}
use Rattle.spef_nodes.specs.declared.node.Spelled.{Spelled}
use Rattle.spef_nodes.specs.declared.node.Spelled.TheVariants.{Plain, Made}
use Rattle.spef_nodes.specs.declared.node.Node.{Node}

-- a byte that neither escapes nor quotes
abbrev pub is_bare : ℕ → Bool
is_bare b = not (is_backslash b || is_quote b)

-- a byte that stands for itself in a name where nothing escapes it: the divider is `/` there, and the bus delimiters
-- `[` and `]`
abbrev pub is_itself : Chars → ℕ → Bool
is_itself chars b =
    if is_backslash b || is_quote b then not true
    else (if b == chars.divider then b == 47
    else (if b == chars.bus_left then b == 91
    else (if b == chars.bus_right then b == 93 else true)))

-- no byte of a text is a backslash
abbrev pub IsUnescaped : List ℕ → Type 0
IsUnescaped text = (i : ℕ) → is_backslash (slice_index text i) ≡ false

abbrev pub bytes_of : Spelled → List ℕ
bytes_of (Plain bytes) = bytes.now
bytes_of (Made name) = name

abbrev pub named_by : Node → NodeName
named_by node = record { owner = bytes_of node.owner; leaf = bytes_of node.leaf }

-- a name that is there as is defined, or out of memory
abbrev pub Spells : Result Spelled NameFault → Option (List ℕ) → Type 0
Spells (Ok name) o = o ≡ Some (bytes_of name)
Spells (Err Bad) o = o ≡ None
Spells (Err Memory) o = Unit {0}

-- and a node
abbrev pub SpellsNode : Result Node NameFault → Option NodeName → Type 0
SpellsNode (Ok node) o = o ≡ Some (named_by node)
SpellsNode (Err Bad) o = o ≡ None
SpellsNode (Err Memory) o = Unit {0}
