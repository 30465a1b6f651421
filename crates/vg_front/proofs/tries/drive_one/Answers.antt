use Rattle.std.proofs.Common.{subst, inr, refl}
use Rattle.vg_front.specs.declared.offer.Offer.{Offer}
use Rattle.vg_front.specs.Offers.{priced, proposed_by, IsBeaten}
use Rattle.vg_front.specs.Tries.{stand_at}
use Rattle.vg_front.proofs.CellLemmas.{tried_beaten, reached_beats}
use Rattle.vg_front.proofs.tries.drive_one.Goals as goal

pub returns-then-is_beaten-clause-tried : goal.returns-then-is_beaten-clause-tried
returns-then-is_beaten-clause-tried c =
    tried_beaten (stand_at c.args.site c.args.number c.args.rep.now) c.args.site.cap c.args.x c.args.made.now.items
    (subst (λ (o : Offer). IsBeaten (proposed_by c.args.made.now.items) (priced o)) c.driven-offer.ensures
    (reached_beats c.args.made.now.items c.args.best.now c.driven-offer.result c.requires.best (c.is_beaten.ensures c.if-is_beaten.true)))

pub returns-clause-best : goal.returns-clause-best
returns-clause-best c = c.in_ok-put.ensures.covers _ (inr refl)
