use Rattle.std.proofs.Common.{◌+◌, ◌-◌, length}
use Rattle.sta_graph.specs.Passes.{IsBackward}
use Rattle.sta_graph.proofs.passes.backward.Given as goal

abbrev pub invariant-leads : goal.invariant-leads
invariant-leads l = IsBackward l.g l.order l.k (length l.order - l.k + 2) l.times
