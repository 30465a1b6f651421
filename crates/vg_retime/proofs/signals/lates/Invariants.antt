use Rattle.std.proofs.Common.{◌≡◌, map}
use Rattle.std.specs.List.{range_with_len}
use Rattle.cut_laws.specs.Walks.{late_at}
use Rattle.vg_retime.specs.Steps.{signal_of}
use Rattle.vg_retime.specs.WalkNets.{timed}
use Rattle.vg_retime.proofs.signals.lates.Given as goal

abbrev pub invariant-node : goal.invariant-node
invariant-node l = l.lates.items ≡ map (late_at (timed l.net) (signal_of l.signal)) (range_with_len 0 l.i)
