use Rattle.std.proofs.Common.{◌≡◌, vec_len}
use Rattle.tests_engine.proofs.cells.draw_reps.Given as goal

abbrev pub invariant-reps : goal.invariant-reps
invariant-reps l = vec_len l.reps ≡ l.at
