use Rattle.std.proofs.Common.{ℕ, ◌<◌, false, slice_index_or}
use Rattle.elmore.specs.Problems.{sink_of}
use Rattle.elmore.specs.Placed.{IsWanted}
use Rattle.elmore.proofs.polarity.first_unlike.Given as goal

abbrev pub invariant-sinks : goal.invariant-sinks
invariant-sinks l = (v : ℕ) → v < l.w → IsWanted (sink_of l.sinks v) (slice_index_or l.inverted v false)
