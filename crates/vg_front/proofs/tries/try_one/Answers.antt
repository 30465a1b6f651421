use Rattle.std.proofs.Common.{get_or, refl}
use Rattle.std.proofs.lemmas.List.Elements.{Contains-get_or}
use Rattle.elmore.specs.Cells.{rep_at}
use Rattle.vg_front.specs.Tries.{IsTriedBy}
use Rattle.vg_front.proofs.TryLemmas.{one_tried, bests_set}
use Rattle.vg_front.proofs.tries.try_one.Goals as goal

pub drive_one-requires-clause-bounded : goal.drive_one-requires-clause-bounded
drive_one-requires-clause-bounded c =
    c.requires.bounded (get_or c.args.xs.now c.latest-at.result _) (Contains-get_or c.args.xs.now c.latest-at.result _ c.latest-at.ensures.inside)

pub returns-clause-tried : goal.returns-clause-tried
returns-clause-tried c =
    one_tried c.args.site c.args.reps.now c.args.number c.args.xs.now c.requires.run (rep_at c.args.reps.now c.args.number).r c.latest-at.result
    c.latest-at.ensures c.requires.charges _ c.args.made.now.items c.drive_one.new.made.items refl c.in_ok-drive_one.ensures.tried

pub returns-clause-bests : goal.returns-clause-bests
returns-clause-bests c =
    bests_set (IsTriedBy c.args.site c.args.reps.now c.args.xs.now c.args.number) c.args.reps.now c.args.made.now.items c.drive_one.new.made.items
    c.args.bests.now c.args.number c.drive_one.new.best c.requires.bests
    (one_tried c.args.site c.args.reps.now c.args.number c.args.xs.now c.requires.run (rep_at c.args.reps.now c.args.number).r c.latest-at.result
    c.latest-at.ensures c.requires.charges _ c.args.made.now.items c.drive_one.new.made.items refl c.in_ok-drive_one.ensures.tried)
    c.in_ok-drive_one.ensures.best
