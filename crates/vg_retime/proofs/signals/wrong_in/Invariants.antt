use Rattle.std.proofs.Common.{◌≡◌, ℕ, ◌<◌, false}
use Rattle.elmore.specs.Delay.{is_odd}
use Rattle.cut_laws.specs.Walks.{end_at}
use Rattle.vg_retime.specs.Ways.{is_wrong}
use Rattle.vg_retime.specs.WalkNets.{timed}
use Rattle.vg_retime.proofs.signals.wrong_in.Given as goal

abbrev pub invariant-node : goal.invariant-node
invariant-node l = (k : ℕ) → k < l.i → is_wrong (is_odd l.signal.inverters) (end_at (timed l.net) k) ≡ false
