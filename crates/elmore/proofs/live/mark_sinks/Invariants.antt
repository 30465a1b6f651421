use Rattle.std.proofs.Common.{◌≡◌, ℕ, ◌<◌, false, slice_index_or}
use Rattle.elmore.specs.Problems.{is_sink}
use Rattle.elmore.proofs.live.mark_sinks.Given as goal

abbrev pub invariant-sinks : goal.invariant-sinks
invariant-sinks l = (k : ℕ) → k < l.v → slice_index_or l.live k false ≡ is_sink l.sinks k
