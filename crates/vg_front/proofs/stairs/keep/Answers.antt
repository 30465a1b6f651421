use Rattle.std.proofs.Common.{List, subst}
use Rattle.std.specs.List.{Contains}
use Rattle.vg_front.specs.declared.stairs.Stair.{Stair}
use Rattle.vg_front.proofs.SeenLemmas.{pushed_cases}
use Rattle.vg_front.proofs.stairs.keep.Goals as goal

pub returns : goal.returns
returns c = λ x found.
    pushed_cases c.args.stairs.now.items _ c.args.stair x (subst (λ (l : List Stair). Contains l x) c.push.ensures.items found)
