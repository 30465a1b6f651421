use Rattle.std.proofs.Common.{◌++◌, List, subst}
use Rattle.std.specs.List.{Contains}
use Rattle.vg_front.specs.declared.stairs.Stair.{Stair}
use Rattle.vg_front.proofs.SeenLemmas.{dropped_ahead}
use Rattle.vg_front.proofs.stairs.Stairs.skip.Goals as goal

pub stairs-preserved : goal.stairs-preserved
stairs-preserved c = record {
  among = λ x found.
      c.stairs.invariant.among x
      (dropped_ahead c.stairs.self.passed.items c.stairs.self.ahead.items _ x
      (subst (λ (l : List Stair). Contains (c.stairs.self.passed.items ++ l) x) c.truncate.ensures.items found));
  cost = c.stairs.invariant.cost;
}
