use Rattle.std.proofs.Common.{◌+ℤ◌, ◌-ℤ◌, slice_index_or, pos}
use Rattle.elmore.proofs.LeastLemmas.{IsLeastOf}
use Rattle.vg_width.proofs.slack.least_slack.Given as goal

abbrev pub invariant-sinks : goal.invariant-sinks
invariant-sinks l = IsLeastOf l.sinks (λ v sink. sink.required -ℤ (l.start +ℤ pos (slice_index_or l.delays v 0))) l.v l.least
