-- What is known of a net after some of its section's lines.
use Rattle.std.specs.Prelude.{◌≡◌, ℕ, ◌++◌, ◌==◌, ◌≤◌, Bool, true, false, length, List, [], ◌∷◌, Option, Some, None, if◌then◌else◌, Result, Ok, Err}
use Rattle.std.specs.List.{slice_get}
use Rattle.vg_scan.specs.declared.name.NodeName.{NodeName}
use Rattle.vg_num.specs.declared.fault.NumFault.{NumFault}
use Rattle.vg_num.specs.declared.memory.Memory.{Memory as NoRoom}
use Rattle.spef_net.specs.declared.net.ParConn.{ParConn}
use Rattle.spef_net.specs.declared.net.ParNet.{ParNet}
use Rattle.spef_net.specs.declared.fault.NetKind.{NetKind}
use Rattle.spef_net.specs.Statements.{Connects}
use Rattle.vg_scan.specs.Nodes.{has_node, node_value}
use Rattle.spef_nodes.specs.Names.{is_own}
use Rattle.spef_nodes.specs.Members.{with_node, is_known}
use Rattle.spef_net.specs.declared.part.Part.{Part}
use Rattle.spef_net.specs.Statements.{Stated, part_after}
use Rattle.spef_net.specs.Connections.{statement_about}
use Rattle.spef_net.specs.Rows.{connected_of, joined_of, starred_of, conns_of, caps_of, ress_of, nodes_of, is_inductive}
use Rattle.spef_net.specs.Faults.{number_fault, fault_of}
use Rattle.spef_file.specs.Files.{File}
use Rattle.spef_nodes.specs.NodeReaders.{NetNodes}
use Rattle.spef_net.specs.Denoted.{AreConns, AreCaps, AreRess}
use Rattle.spef_nodes.specs.Nodes.{Note, fresh, joined, starred, note_at, noted_all}
use Rattle.spef_net.specs.Views.{IsFaultOrMemory}

-- of the net of this name in a file: the nodes so far, what is noted of them, and the rows, whose nodes are numbers
pub record PartialNet : Type 0 where
  pub file : File
  pub net : List ℕ
  pub nodes : List NodeName
  pub notes : List Note
  pub conns : List ParConn
  pub caps : List (ℕ × ℕ)
  pub ress : List (ℕ × ℕ × ℕ)
  pub inductive : Bool

-- no line is taken yet
abbrev pub start_of : NetNodes → PartialNet
start_of net =
    record { file = net.file; net = net.net; nodes = net.nodes; notes = []; conns = []; caps = []; ress = []; inductive = false }

-- both are of one net of one file
abbrev pub IsSameSource : PartialNet → PartialNet → Type 0
IsSameSource old new = (new.file ≡ old.file) × (new.net ≡ old.net)

-- a connection more, with its note
abbrev pub ConnAdded : PartialNet → ParConn → List ℕ → PartialNet → Type 0
ConnAdded old conn note new =
    ((i : ℕ) → note_at new.notes i ≡ (if i == conn.node then joined note else note_at old.notes i))
    × (new ≡ record old { notes = new.notes; conns = old.conns ++ conn ∷ [] })

-- the note of a `*N` line more
abbrev pub StarAdded : PartialNet → ℕ → List ℕ → PartialNet → Type 0
StarAdded old id note new =
    ((i : ℕ) → note_at new.notes i ≡ (if i == id then starred note else note_at old.notes i))
    × (new ≡ record old { notes = new.notes })

-- a capacitor more at the node of a number, or the fault of its value
abbrev pub AddsCap : Result (Unit {0}) NetKind → PartialNet → ℕ → Result ℕ NumFault → PartialNet → Type 0
AddsCap (Ok _) old id value new = (v : ℕ) × (value ≡ Ok v) × (new ≡ record old { caps = old.caps ++ (id, v) ∷ [] })
AddsCap (Err kind) old id value new = IsFaultOrMemory (number_fault value) kind

-- a resistor more between the nodes of two numbers, or the fault of its value
abbrev pub AddsRes : Result (Unit {0}) NetKind → PartialNet → ℕ × ℕ → Result ℕ NumFault → PartialNet → Type 0
AddsRes (Ok _) old ends value new =
    (v : ℕ) × (value ≡ Ok v) × (new ≡ record old { ress = old.ress ++ (ends.0, ends.1, v) ∷ [] })
AddsRes (Err kind) old ends value new = IsFaultOrMemory (number_fault value) kind

-- the number of a node that is the net's, which is put last where it is new, or none
abbrev pub Owns : Result (Option ℕ) NoRoom → List ℕ → PartialNet → NodeName → PartialNet → Type 0
Owns (Ok (Some id)) net old node new =
    (is_known old.nodes net node ≡ true) × (slice_get (with_node old.nodes node) id ≡ Some node)
    × (new ≡ record old { nodes = with_node old.nodes node })
Owns (Ok None) net old node new = (is_known old.nodes net node ≡ false) × (new ≡ old)
Owns (Err _) net old node new = Unit {0}

-- what connections and `*N` lines note of a node
abbrev pub note_from : Option (List ℕ) → Option (List ℕ) → Note
note_from (Some text) _ = joined text
note_from None (Some text) = starred text
note_from None None = fresh

abbrev pub noted_by : List (NodeName × List ℕ) → List (NodeName × List ℕ) → NodeName → Note
noted_by connections stars node = note_from (node_value connections node) (node_value stars node)

-- the notes are those of the nodes: nothing is noted past them, and nothing of other nodes
pub record AreNoted (nodes : List NodeName) (notes : List Note)
    (connections stars : List (NodeName × List ℕ)) : Type 0 where
  pub here : (i : ℕ) (node : NodeName) → slice_get nodes i ≡ Some node
      → note_at notes i ≡ noted_by connections stars node
  pub beyond : (i : ℕ) → length nodes ≤ i → note_at notes i ≡ fresh
  pub others : (node : NodeName) → has_node nodes node ≡ false → noted_by connections stars node ≡ fresh

-- it is what the lines so far denote
pub record IsPartialNet (connected : List NodeName) (net : List ℕ) (before : List Stated)
    (builder : PartialNet) : Type 0 where
  pub nodes : builder.nodes ≡ nodes_of connected net before
  pub own : (node : NodeName) → is_known builder.nodes net node ≡ is_own connected net node
  pub noted : AreNoted builder.nodes builder.notes (joined_of before) (starred_of before)
  pub conns : AreConns builder.nodes builder.conns (conns_of before)
  pub caps : AreCaps builder.nodes builder.caps (caps_of connected net before)
  pub ress : AreRess builder.nodes builder.ress (ress_of before)
  pub inductive : builder.inductive ≡ is_inductive before

-- a line is taken after others, or its fault is answered
abbrev pub Taken : Result (Unit {0}) NetKind → List NodeName → List ℕ → List Stated → Stated → PartialNet → Type 0
Taken (Ok _) connected net before line new =
    (fault_of connected net before line ≡ None) × IsPartialNet connected net (before ++ line ∷ []) new
Taken (Err kind) connected net before line new = IsFaultOrMemory (fault_of connected net before line) kind

-- the node of a connection is counted among those of all connections
abbrev pub IsCounted : List NodeName → Stated → Type 0
IsCounted connected (Ok (Connects _ _ node _)) = has_node connected node ≡ true
IsCounted connected _ = Unit {0}

-- this line is taken after whatever lines the builder was made of
abbrev pub Takes : Result (Unit {0}) NetKind → List ℕ → PartialNet → Stated → PartialNet → Type 0
Takes result net old line new =
    (connected : List NodeName) (before : List Stated) → IsCounted connected line
    → IsPartialNet connected net before old → Taken result connected net before line new

-- the same, with the part that is open after the line
abbrev pub Follows : Result Part NetKind → List ℕ → Part → PartialNet → Stated → PartialNet → Type 0
Follows (Ok next) net part old line new = (next ≡ part_after part line) × Takes (Ok tt) net old line new
Follows (Err kind) net part old line new = Takes (Err kind) net old line new

-- the same of the builder's own net
abbrev pub FollowsFrom : PartialNet → Part → Result Part NetKind → Stated → PartialNet → Type 0
FollowsFrom old part result line new = Follows result old.net part old line new

-- a builder has taken all lines of a section
abbrev pub HasTaken : NetNodes → List ℕ → PartialNet → Type 0
HasTaken nodes bytes builder =
    IsPartialNet (connected_of (statement_about nodes bytes)) nodes.net (statement_about nodes bytes) builder

-- the net of a builder
pub record IsMade (name : List ℕ) (reduced : Bool) (builder : PartialNet) (net : ParNet) : Type 0 where
  pub named : net.name ≡ name
  pub nodes : net.nodes ≡ noted_all builder.nodes builder.notes
  pub conns : net.conns ≡ builder.conns
  pub caps : net.caps ≡ builder.caps
  pub ress : net.ress ≡ builder.ress
  pub is_reduced : net.reduced ≡ reduced
  pub is_inductive : net.inductive ≡ builder.inductive
