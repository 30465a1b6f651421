-- The first of some flaws, as the code keeps it: for the functions between.
use Rattle.std.specs.Prelude.{ℕ, List, Option, Some, None, fold, if◌then◌else◌}
use Rattle.lib_cells.specs.declared.flaw.Flaw.{Flaw}
use Rattle.lib_cells.specs.Flaws.{is_before}
use Rattle.lib_cells.specs.declared.fault.LibKind.{LibKind}
use Rattle.lib_text.specs.Syntax.{line_at}
use Rattle.vg_scan.specs.declared.fault.LineFault.{LineFault}

-- a flaw, or the one before it where that comes first
abbrev pub earlier : List ℕ → Option Flaw → Flaw → Option Flaw
earlier bytes None flaw = Some flaw
earlier bytes (Some first) flaw = Some (if is_before bytes flaw first then flaw else first)

-- the first of these flaws, or the one before them
abbrev pub first_of : List ℕ → Option Flaw → List Flaw → Option Flaw
first_of bytes first flaws = fold (earlier bytes) first flaws

-- a flaw, told by its line
abbrev pub fault_of : List ℕ → Flaw → LineFault LibKind
fault_of bytes flaw = record { kind = flaw.kind; line = line_at bytes flaw.place }
