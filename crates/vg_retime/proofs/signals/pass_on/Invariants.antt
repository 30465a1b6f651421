use Rattle.std.proofs.Common.{◌≡◌, ◌++◌, map}
use Rattle.std.specs.List.{filter_map, range_with_len}
use Rattle.cut_laws.specs.Walks.{end_at, passed}
use Rattle.vg_retime.specs.Steps.{signal_of}
use Rattle.vg_retime.specs.WalkNets.{timed}
use Rattle.vg_retime.proofs.signals.pass_on.Given as goal

abbrev pub invariant-node : goal.invariant-node
invariant-node l =
    map signal_of l.signals.items
    ≡ map signal_of l.fn.signals.items ++ filter_map (λ w. passed (timed l.net) (signal_of l.signal) w (end_at (timed l.net) w)) (range_with_len 0 l.i)
