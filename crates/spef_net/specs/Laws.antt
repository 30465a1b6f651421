-- What a user knows of the answers to the lines of a net.
use Rattle.std.specs.Prelude.{◌≡◌, ℕ, Bool, List}
use Rattle.spef_net.specs.declared.net.ParNet.{ParNet}
use Rattle.vg_scan.specs.declared.fault.LineFault.{LineFault}
use Rattle.spef_net.specs.declared.fault.NetKind.{NetKind}
use Rattle.spef_file.specs.Files.{File}
use Rattle.spef_file.specs.Nets.{NetHead}
use Rattle.spef_net.specs.Statements.{Stated, statements}
use Rattle.spef_net.specs.Faults.{IsFaultless, IsFirstFaultIn}
use Rattle.spef_net.specs.Denoted.{IsNet}

-- lines denote at most one net
abbrev pub OneNet : Type 0
OneNet = (name : List ℕ) (reduced : Bool) (lines : List Stated) (net other : ParNet)
    → IsNet name reduced lines net → IsNet name reduced lines other → net ≡ other

-- they have at most one first fault
abbrev pub OneFault : Type 0
OneFault = (name : List ℕ) (lines : List Stated) (first : ℕ) (fault other : LineFault NetKind)
    → IsFirstFaultIn name lines first fault → IsFirstFaultIn name lines first other → fault ≡ other

-- and none where they are faultless
abbrev pub FaultOrNone : Type 0
FaultOrNone = (name : List ℕ) (lines : List Stated) (first : ℕ) (fault : LineFault NetKind)
    → IsFaultless name lines → IsFirstFaultIn name lines first fault → ⊥

-- what lines say does not depend on the nets of the file
abbrev pub OtherNetsCountNot : Type 0
OtherNetsCountNot = (file : File) (nets : List NetHead) (lines : List (List ℕ))
    → statements (record file { nets = nets }) lines ≡ statements file lines
