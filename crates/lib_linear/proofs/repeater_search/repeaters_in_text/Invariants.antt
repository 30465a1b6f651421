use Rattle.lib_cells.specs.Cells.{cell_groups}
use Rattle.lib_linear.specs.RepeaterSteps.{HasTaken}
use Rattle.lib_linear.proofs.repeater_search.repeaters_in_text.Given as goal

abbrev pub invariant-loop-at : goal.invariant-loop-at
invariant-loop-at l = record { taken : HasTaken l.units (cell_groups l.library) l.at-iterator.iter l.at-iterator.count l.found.items }
