-- What one line adds to the connections of a section.
use Rattle.std.specs.Prelude.{◌≡◌, ℕ, Bool, true, false, List, Option, Some, None, Result, Ok, Err}
use Rattle.std.specs.Str.Lines.{lines}
use Rattle.vg_num.specs.declared.memory.Memory.{Memory as NoRoom}
use Rattle.vg_scan.specs.declared.name.NodeName.{NodeName}
use Rattle.spef_net.specs.declared.fault.NetKind.{NetKind}
use Rattle.spef_net.specs.declared.fault.NetKind.TheVariants.{Memory}
use Rattle.spef_net.specs.declared.part.Part.{Part}
use Rattle.spef_net.specs.declared.part.Part.TheVariants.{Conns}
use Rattle.spef_nodes.specs.Members.{with_node, distinct}
use Rattle.spef_net.specs.Statements.{Stated, part_after, statements}
use Rattle.spef_net.specs.Rows.{joined_in, connected_of}
use Rattle.spef_nodes.specs.NodeReaders.{NetNodes}
use Rattle.spef_file.specs.Files.{File}

abbrev pub is_conns : Part → Bool
is_conns Conns = true
is_conns _ = false

abbrev pub with_joined : List NodeName → Option (NodeName × List ℕ) → List NodeName
with_joined nodes (Some row) = with_node nodes row.0
with_joined nodes None = nodes

-- the part that is open after a line, and the nodes with its own
abbrev pub Gathers : Result Part NoRoom → List NodeName → List NodeName → Part → Stated → Type 0
Gathers (Ok next) old new part line = (next ≡ part_after part line) × (new ≡ with_joined old (joined_in line))
Gathers (Err _) old new part line = Unit {0}

-- what the lines of a net's section say
abbrev pub statement_about : NetNodes → List ℕ → List Stated
statement_about net bytes = statements net.file (lines bytes)

-- the nodes of the connections of a section's lines
abbrev pub connections_in : File → List ℕ → List (List ℕ) → NetNodes
connections_in file net lines =
    record { file = file; net = net; nodes = distinct (connected_of (statements file lines)) }

abbrev pub is_memory : NetKind → Bool
is_memory Memory = true
is_memory _ = false
