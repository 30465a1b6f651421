-- The nodes of a net, and texts that name them.
use Rattle.std.specs.Prelude.{◌≡◌, ◌==◌, ◌++◌, ℕ, suc, ◌<◌, true, false, List, length, slice_index, slice_index_or, Option, Some, None, Result, Ok, Err}
use Rattle.std.specs.List.{slice_get}
use Rattle.vg_num.specs.Number.{is_digit, are_digits, value_of}
use Rattle.vg_scan.specs.declared.chars.Chars.{Chars}
use Rattle.vg_scan.specs.declared.fault.NameFault.{NameFault}
use Rattle.vg_scan.specs.declared.fault.NameFault.TheVariants.{Bad, Memory}
use Rattle.vg_scan.specs.declared.name.NodeName.{NodeName}
use Rattle.spef_file.specs.Files.{File}
use Rattle.spef_nodes.specs.Members.{node_named, Owns}
use Rattle.spef_nodes.specs.Names.{node_in}
use Rattle.spef_nodes.specs.Spellings.{is_itself}
use Rattle.spef_nodes.specs.declared.node_reader.Known.{Known}

-- the nodes so far of the net of this name in a file
pub record NetNodes : Type 0 where
  pub file : File
  pub net : List ℕ
  pub nodes : List NodeName

-- these nodes, of the net of this name in a file
abbrev pub net_nodes : File → List ℕ → List NodeName → NetNodes
net_nodes file net nodes = record { file = file; net = net; nodes = nodes }

-- digits of which the first is no zero write a number
abbrev pub Writes : List ℕ → ℕ → Type 0
Writes digits number = (are_digits digits ≡ true) × ((slice_index digits 0 == 48) ≡ false) × (value_of digits ≡ number)

-- digits stand for themselves in names, and none is the delimiter
abbrev pub ArePlainDigits : Chars → Type 0
ArePlainDigits chars = (b : ℕ) → is_digit b ≡ true → (is_itself chars b ≡ true) × ((b == chars.delimiter) ≡ false)

-- there is no prefix yet, or it and digits name the inner node of those digits
abbrev pub IsPrefix : File → List ℕ → List ℕ → Type 0
IsPrefix file net prefix = (leaf : List ℕ) → (length prefix == 0) ≡ false → are_digits leaf ≡ true
    → node_in file (prefix ++ leaf) ≡ Some (node_named net leaf)

-- the node of this number is the one whose leaf writes a number
abbrev pub IsNumbered : NetNodes → ℕ → ℕ → Type 0
IsNumbered reader number id =
    (leaf : List ℕ) → Writes leaf number → slice_get reader.nodes id ≡ Some (node_named reader.net leaf)

-- for each number that is not 0, one more than the number of the node whose leaf writes its place
abbrev pub AreNumbers : NetNodes → List ℕ → Type 0
AreNumbers reader numbers = (number id : ℕ) → slice_index numbers number ≡ suc id → IsNumbered reader number id

-- a text that is known names the node of its number
abbrev pub IsKnown : NetNodes → Option Known → Type 0
IsKnown reader None = Unit {0}
IsKnown reader (Some known) =
    (node_in reader.file known.text.now ≡ slice_get reader.nodes known.id) × (known.id < length reader.nodes)

abbrev pub AreKnown : NetNodes → List (Option Known) → Type 0
AreKnown reader slots = (i : ℕ) → IsKnown reader (slice_index_or slots i None)

-- what a reader of these nodes knows is true
pub record IsReader (reader : NetNodes) (prefix numbers : List ℕ) (slots : List (Option Known)) : Type 0 where
  pub begins : IsPrefix reader.file reader.net prefix
  pub leads : AreNumbers reader numbers
  pub known : AreKnown reader slots

-- the number of the node that a text names, where it is the net's, or none
abbrev pub SeesNode : Result (Option ℕ) NameFault → List ℕ → List NodeName → Option NodeName → List NodeName → Type 0
SeesNode (Ok found) net old o new = (node : NodeName) × (o ≡ Some node) × Owns (Ok found) net old node new
SeesNode (Err Bad) net old o new = o ≡ None
SeesNode (Err Memory) net old o new = Unit {0}
