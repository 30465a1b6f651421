use Rattle.std.proofs.Common.{◌≡◌, ℕ, ◌<◌, true, false, slice_index_or}
use Rattle.elmore.specs.Problems.{is_sink}
use Rattle.tests_search.proofs.problems.has_free_sink.Given as goal

abbrev pub invariant-sinks : goal.invariant-sinks
invariant-sinks l = (k : ℕ) → k < l.v → is_sink l.sinks k ≡ true → slice_index_or l.free k false ≡ false
