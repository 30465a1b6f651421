use Rattle.vg_front.proofs.SeenLemmas.{moved_on}
use Rattle.vg_front.proofs.stairs.Stairs.pass.Goals as goal

pub stairs-preserved : goal.stairs-preserved
stairs-preserved c = record {
  among = λ x found. c.stairs.invariant.among x (moved_on c.stairs.self.passed.items c.stairs.self.ahead.items _ _ c.move_last.ensures.moved x found);
  cost = c.stairs.invariant.cost;
}
