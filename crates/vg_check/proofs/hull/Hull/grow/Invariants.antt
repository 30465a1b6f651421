use Rattle.std.proofs.Common.{◌-◌, length}
use Rattle.vg_check.specs.Hulls.{AreWithin, IsHull}
use Rattle.vg_check.proofs.hull.Hull.grow.Given as goal

abbrev pub invariant-pairs : goal.invariant-pairs
invariant-pairs l = record {
  hull : IsHull l.pairs l.self.next l.self.points.items;
  within : AreWithin l.limit l.pairs l.self.next;
}

abbrev pub decreases-pairs : goal.decreases-pairs
decreases-pairs l = length l.pairs - l.self.next
