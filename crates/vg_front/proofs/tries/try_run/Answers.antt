use Rattle.std.proofs.Common.{◌-◌, length, get_or}
use Rattle.elmore.specs.Cells.{rep_at}
use Rattle.vg_front.proofs.TryLemmas.{within_less, last_most}
use Rattle.vg_front.proofs.tries.try_run.Goals as goal

pub try_halves-requires-clause-charge : goal.try_halves-requires-clause-charge
try_halves-requires-clause-charge c = λ x x_in b b_in.
    within_less (rep_at c.args.reps.now b).limit x.offer.c (get_or c.args.xs.now (length c.args.xs.now - 1) _).offer.c
    (last_most c.args.xs.now c.requires.run x _ x_in) (c.drive_all.ensures c.if-drive_all.true b b_in)
