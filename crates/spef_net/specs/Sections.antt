-- The nets of a file: what the lines after a head say, and the net that they denote.
use Rattle.std.specs.Prelude.{◌≡◌, Some, ℕ, ◌+◌, ◌≤◌, ◌^◌, List, [], length, if◌then◌else◌}
use Rattle.std.specs.List.{slice_get}
use Rattle.spef_file.specs.Nets.{NetHead}
use Rattle.spef_file.specs.Files.{File}
use Rattle.spef_file.specs.Indexes.{lines_after}
use Rattle.vg_scan.specs.declared.fault.LineFault.{LineFault}
use Rattle.spef_net.specs.declared.fault.NetKind.{NetKind}
use Rattle.spef_net.specs.declared.net.ParNet.{ParNet}
use Rattle.spef_net.specs.Statements.{Stated, statements}
use Rattle.spef_net.specs.Faults.{IsFaultless, IsFirstFaultIn}
use Rattle.spef_net.specs.Denoted.{IsNet}

-- what the lines of a net say whose head is this; those of a reduced net are not read
abbrev pub statements_in : List ℕ → File → NetHead → List Stated
statements_in text file head = if head.reduced then [] else statements file (lines_after text head.line)

-- the net of a head
pub record IsNetOf (text : List ℕ) (file : File) (head : NetHead) (net : ParNet) : Type 0 where
  pub faultless : IsFaultless head.name (statements_in text file head)
  pub denoted : IsNet head.name head.reduced (statements_in text file head) net

-- or its first fault, with the number of its line in the file
abbrev pub IsFaultOf : List ℕ → File → NetHead → LineFault NetKind → Type 0
IsFaultOf text file head fault = IsFirstFaultIn head.name (statements_in text file head) (head.line + 1) fault

-- the same of the head at a place of the file's nets
abbrev pub IsNetAt : List ℕ → File → ℕ → ParNet → Type 0
IsNetAt text file at net = (head : NetHead) → slice_get file.nets at ≡ Some head → IsNetOf text file head net

abbrev pub IsFaultAt : List ℕ → File → ℕ → LineFault NetKind → Type 0
IsFaultAt text file at fault = (head : NetHead) → slice_get file.nets at ≡ Some head → IsFaultOf text file head fault

-- a text of at most 2^28 bytes has at most so many nodes, capacitors and resistors
pub record IsSized (net : ParNet) : Type 0 where
  pub node_count : length net.nodes ≤ 2 ^ 30
  pub cap_count : length net.caps ≤ 2 ^ 28
  pub res_count : length net.ress ≤ 2 ^ 28
