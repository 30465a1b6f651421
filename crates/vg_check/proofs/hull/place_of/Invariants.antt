use Rattle.std.proofs.Common.{◌<◌, ◌≤◌, ◌-◌, length}
use Rattle.vg_check.specs.Hulls.{point_at}
use Rattle.vg_check.proofs.hull.place_of.Given as goal

abbrev pub invariant-search : goal.invariant-search
invariant-search l = record {
  order : l.low < l.high;
  inside : l.high ≤ length l.points;
  until : l.r ≤ (point_at l.points l.low).last;
  next : l.high < length l.points → (point_at l.points l.high).last < l.r;
}

abbrev pub decreases-search : goal.decreases-search
decreases-search l = l.high - l.low
