-- The fault of a line, given what the lines before it say and the nodes of all connections, and the first fault.
use Rattle.std.specs.Prelude.{◌≡◌, ◌⊎◌, ℕ, ◌||◌, ◌&&◌, not, List, length, take, slice_index_or, is_some, Option, Some, None, Result, Ok, Err, if◌then◌else◌}
use Rattle.vg_num.specs.declared.fault.NumFault.{NumFault}
use Rattle.vg_scan.specs.declared.name.NodeName.{NodeName}
use Rattle.spef_net.specs.declared.fault.NetKind.{NetKind}
use Rattle.spef_net.specs.declared.fault.NetKind.TheVariants.{Conn, Number, Foreign, SelfCoupled, Memory}
use Rattle.vg_scan.specs.declared.fault.LineFault.{LineFault}
use Rattle.vg_scan.specs.Faults.{IsClear, IsFirstFault}
use Rattle.spef_net.specs.Statements.{Opens, Nothing, Connects, Star, Ground, Coupling, Resistor}
use Rattle.vg_scan.specs.Nodes.{node_value}
use Rattle.spef_nodes.specs.Names.{is_own}
use Rattle.spef_nodes.specs.Members.{is_inner}
use Rattle.spef_net.specs.Statements.{Stated}
use Rattle.spef_net.specs.Rows.{joined_of, starred_of, connected_of}

abbrev pub number_fault : Result ℕ NumFault → Option NetKind
number_fault (Ok _) = None
number_fault (Err fault) = Some (Number fault)

-- the fault of what is statement_of, given the rows of connections and of `*N` lines before it
abbrev pub fault_after : List NodeName → List ℕ → List (NodeName × List ℕ) → List (NodeName × List ℕ)
    → Stated → Option NetKind
fault_after connected net joined starred (Err kind) = Some kind
fault_after connected net joined starred (Ok (Opens _)) = None
fault_after connected net joined starred (Ok Nothing) = None
fault_after connected net joined starred (Ok (Connects _ _ node _)) =
    if is_some (node_value joined node) || is_some (node_value starred node) then Some Conn else None
fault_after connected net joined starred (Ok (Star node _)) =
    if is_inner net node && not (is_some (node_value joined node)) then None else Some Conn
fault_after connected net joined starred (Ok (Ground node value)) =
    if is_own connected net node then number_fault value else Some Foreign
fault_after connected net joined starred (Ok (Coupling a b value)) =
    if is_own connected net a && is_own connected net b then Some SelfCoupled
    else (if is_own connected net a || is_own connected net b then number_fault value else Some Foreign)
fault_after connected net joined starred (Ok (Resistor a b value)) =
    if is_own connected net a && is_own connected net b then number_fault value else Some Foreign

-- the fault of a line, given the lines before it
unfoldable pub fault_of : List NodeName → List ℕ → List Stated → Stated → Option NetKind
fault_of connected net before line = fault_after connected net (joined_of before) (starred_of before) line

abbrev pub fault_at : List ℕ → List Stated → ℕ → Option NetKind
fault_at net lines i = fault_of (connected_of lines) net (take i lines) (slice_index_or lines i (Ok Nothing))

-- no line has a fault
abbrev pub IsFaultless : List ℕ → List Stated → Type 0
IsFaultless net lines = IsClear (fault_at net lines) (length lines)

-- the first faulty line, and its fault; the first line has this number
abbrev pub IsFirstFaultIn : List ℕ → List Stated → ℕ → LineFault NetKind → Type 0
IsFirstFaultIn net lines first fault = IsFirstFault (fault_at net lines) (length lines) first fault

-- memory ran out, or it is the first faulty line
abbrev pub FailsFirst : List ℕ → List Stated → ℕ → LineFault NetKind → Type 0
FailsFirst net lines first fault = (fault.kind ≡ Memory) ⊎ IsFirstFaultIn net lines first fault
