use Rattle.std.proofs.Common.{◌≡◌, ℕ, ◌<◌, Some}
use Rattle.elmore.specs.Problems.{IsSmall, sink_of}
use Rattle.elmore.specs.declared.parts.Sink.{Sink}
use Rattle.elmore.proofs.limits.are_times_within.Given as goal

abbrev pub invariant-sinks : goal.invariant-sinks
invariant-sinks l = (k : ℕ) (sink : Sink) → k < l.sink-index → sink_of l.sinks k ≡ Some sink → IsSmall sink.required
