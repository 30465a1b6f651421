use Rattle.std.proofs.Common.{◌≡◌, ℤ, ◌++◌, List}
use Rattle.std.specs.Prelude.{IfSome}
use Rattle.std.specs.List.{filter_map, range_with_len}
use Rattle.cut_laws.specs.Walks.{Signal, end_at, late_at}
use Rattle.vg_retime.specs.Times.{lates_in, left_by, IsLeastOf, IsTime}
use Rattle.vg_retime.specs.WalkNets.{timed}
use Rattle.vg_retime.proofs.signals.least_in.Given as goal

abbrev pub invariant-node : goal.invariant-node
invariant-node l = record {
  least : (s : Signal) (times : List ℤ) → l.lates ≡ lates_in (timed l.net) s → IsLeastOf times l.fn.before
      → IsLeastOf (times ++ filter_map (λ w. left_by (end_at (timed l.net) w) (late_at (timed l.net) s w)) (range_with_len 0 l.i)) l.least;
  small : IfSome l.fn.before IsTime → IfSome l.least IsTime;
}
