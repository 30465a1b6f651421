-- Laws of libraries and their faults.
use Rattle.std.specs.Prelude.{ℕ, List}
use Rattle.vg_scan.specs.declared.fault.LineFault.{LineFault}
use Rattle.lib_cells.specs.declared.fault.LibKind.{LibKind}
use Rattle.lib_linear.specs.Faults.{IsFirstFault}
use Rattle.lib_linear.specs.Libraries.{Cells, Denotes}

-- a text that denotes a library has no fault
abbrev pub Excludes : Type 0
Excludes =
    (bytes : List ℕ) (said : Cells) (fault : LineFault LibKind) → Denotes bytes said → IsFirstFault bytes fault → ⊥
