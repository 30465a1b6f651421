use Rattle.std.proofs.Common.{refl}
use Rattle.lib_cells.proofs.ReduceLemmas.{too_few, enough}
use Rattle.lib_cells.proofs.function.fits.Goals as goal

pub returns-then-all-own : goal.returns-then-all-own
returns-then-all-own c = too_few c.args.text.now c.args.name.now c.count_fronts-own.result c.count_fronts-all.result c.count_fronts-own.ensures.count c.count_fronts-all.ensures.count c.if-all-own.true

pub returns-then-is_balanced : goal.returns-then-is_balanced
returns-then-is_balanced c =
    rw (enough c.args.text.now c.args.name.now c.count_fronts-own.result c.count_fronts-all.result c.count_fronts-own.ensures.count c.count_fronts-all.ensures.count c.if-all-own.false, ← c.stands_after.ensures, ← c.is_balanced.ensures, c.if-is_balanced.true) refl

pub returns-else-is_balanced : goal.returns-else-is_balanced
returns-else-is_balanced c =
    rw (enough c.args.text.now c.args.name.now c.count_fronts-own.result c.count_fronts-all.result c.count_fronts-own.ensures.count c.count_fronts-all.ensures.count c.if-all-own.false, ← c.is_balanced.ensures, c.if-is_balanced.false) refl
