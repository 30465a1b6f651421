use Rattle.std.proofs.Common.{ℕ, ◌<◌, ◌≤◌, slice_index_or}
use Rattle.elmore.specs.declared.rep.Rep.{Rep}
use Rattle.tests_search.proofs.problems.is_rising.Given as goal

abbrev pub invariant-reps : goal.invariant-reps
invariant-reps l = (k j : ℕ) (d : Rep) → k < j → j < l.i → (slice_index_or l.reps k d).r ≤ (slice_index_or l.reps j d).r
