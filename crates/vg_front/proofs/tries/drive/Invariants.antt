use Rattle.std.proofs.Common.{take}
use Rattle.vg_front.specs.Offers.{Adds}
use Rattle.vg_front.specs.Driving.{IsReached, IsDriven}
use Rattle.vg_front.specs.Tries.{stand_at}
use Rattle.vg_front.proofs.tries.drive.Given as goal

abbrev pub invariant-candidates : goal.invariant-candidates
invariant-candidates l = record {
  best : IsReached l.made.items l.best;
  made : Adds (IsDriven (stand_at l.site l.number l.rep) l.site.cap (take l.x-index l.xs)) l.fn.made.items l.made.items;
}
