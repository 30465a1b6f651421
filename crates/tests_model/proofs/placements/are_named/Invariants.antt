use Rattle.std.proofs.Common.{◌≡◌, ℕ, ◌<◌, Some, None, slice_index_or}
use Rattle.tests_model.proofs.placements.are_named.Given as goal

abbrev pub invariant-cells : goal.invariant-cells
invariant-cells l = (k b : ℕ) → k < l.cell-index → slice_index_or l.cells k None ≡ Some b → b < l.reps
