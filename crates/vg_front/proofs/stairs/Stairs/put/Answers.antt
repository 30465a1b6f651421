use Rattle.std.proofs.Common.{rules, subst}
use Rattle.std.proofs.lemmas.Int.{to_z-of_z}
use Rattle.std.specs.Int.{w128}
use mir.Val.{SFits}
use Rattle.vg_front.specs.declared.stairs.Stair.{Stair}
use Rattle.vg_front.specs.Seen.{stairs_of, stair_of, AreOf}
use Rattle.vg_front.proofs.SeenLemmas.{put_between}
use Rattle.vg_front.proofs.stairs.Stairs.put.Goals as goal

pub returns-clause-among : goal.returns-clause-among
returns-clause-among c =
    let fits : SFits w128 c.args.offer.q = search rules in
    put_between (stairs_of c.args.self.now) c.skip.new.self.passed.items c.skip.new.self.ahead.items c.keep.new.stairs.items (stair_of c.args.offer)
    (λ x found. c.drop_equal.ensures.among x (c.skip.ensures.among x found))
    (subst (λ (y : Stair). AreOf c.skip.new.self.passed.items y c.keep.new.stairs.items)
    (λ i. record { q = to_z-of_z w128 c.args.offer.q fits i; c = c.args.offer.c }) c.keep.ensures)
