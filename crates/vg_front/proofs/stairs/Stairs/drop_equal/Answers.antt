use Rattle.std.proofs.Common.{◌++◌, List, refl, subst}
use Rattle.std.specs.List.{Contains}
use Rattle.vg_front.specs.declared.stairs.Stair.{Stair}
use Rattle.vg_front.proofs.SeenLemmas.{dropped_behind}
use Rattle.vg_front.proofs.stairs.Stairs.drop_equal.Goals as goal

pub returns-then-index-c : goal.returns-then-index-c
returns-then-index-c c = record {
  among = λ x found.
      dropped_behind c.args.self.now.passed.items c.args.self.now.ahead.items _ x
      (subst (λ (l : List Stair). Contains (l ++ c.args.self.now.ahead.items) x) c.truncate.ensures.items found);
  cost = refl;
}
