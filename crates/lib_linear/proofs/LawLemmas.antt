-- Laws of libraries and their faults.
use Rattle.std.proofs.Common.{ℕ, List, subst}
use Rattle.vg_scan.specs.declared.fault.LineFault.{LineFault}
use Rattle.lib_text.specs.Groups.{Group}
use Rattle.lib_cells.specs.declared.fault.LibKind.{LibKind}
use Rattle.lib_cells.specs.Cells.{cell_groups}
use Rattle.lib_linear.specs.Faults.{IsLibraryFault}
use Rattle.lib_linear.specs.Faults.IsFirstFault.{in_syntax, in_library}
use Rattle.lib_linear.specs.Faults.IsLibraryFault.{in_header, in_cells, in_count}
use Rattle.lib_cells.specs.Flaws.{IsFirst}
use Rattle.lib_linear.specs.Laws.{Excludes}
use Rattle.lib_linear.specs.Libraries.{Cells, Says}
use Rattle.lib_cells.specs.Units.{units_of}
use Rattle.lib_cells.proofs.OrderLemmas.{not_among_none}
use Rattle.lib_linear.proofs.RepeaterLaws.{not_over}

-- a library whose statements have no flaw has no fault
sound : (bytes : List ℕ) (library : Group) (said : Cells) (fault : LineFault LibKind) → Says library said → IsLibraryFault bytes library fault → ⊥
sound bytes library said fault s (in_header f) = not_among_none bytes fault (subst (λ flaws. IsFirst bytes flaws fault) s.header f)
sound bytes library said fault s (in_cells h f) = not_among_none bytes fault (subst (λ flaws. IsFirst bytes flaws fault) s.values f)
sound bytes library said fault s (in_count h v f) = not_over (units_of library) (cell_groups library) said.repeaters f.place s.repeaters f.over

pub excludes : Excludes
excludes bytes said fault d (in_syntax f) = f.broken.fault.broken d.syntax
excludes bytes said fault d (in_library s f) = sound bytes _ said fault d.says f
