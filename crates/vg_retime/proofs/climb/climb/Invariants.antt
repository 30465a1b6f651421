use Rattle.std.proofs.Common.{◌-◌, length}
use Rattle.vg_retime.proofs.ClimbLemmas.{IsClimbing}
use Rattle.vg_retime.proofs.climb.climb.Given as goal

abbrev pub invariant-up : goal.invariant-up
invariant-up l = IsClimbing l.design l.prefix l.id l.at l.come

abbrev pub decreases-up : goal.decreases-up
decreases-up l = length l.design.netlist.nets - length l.come
