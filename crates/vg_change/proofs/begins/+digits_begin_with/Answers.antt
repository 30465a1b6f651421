use Rattle.std.proofs.Common.{sym, ◌∙◌}
use Rattle.vg_change.proofs.BeginLemmas.{begins_one, begins_step, some_there}
use Rattle.vg_change.proofs.begins.+digits_begin_with.Goals as goal

pub returns-then-number-lt10 : goal.returns-then-number-lt10
returns-then-number-lt10 t c = begins_one c.args.number c.if-number-lt10.true c.args.start.now (some_there c.args.start.now (sym c.is_empty.ensures ∙ c.if-is_empty.false)) (sym c.are_digits.ensures ∙ c.if-are_digits.false)

pub returns-else-number-lt10 : goal.returns-else-number-lt10
returns-else-number-lt10 t c =
    c.digits_begin_with.ensures
    ∙ begins_step c.args.number c.if-number-lt10.false c.ranges.number.fits c.args.start.now (sym c.are_digits.ensures ∙ c.if-are_digits.false)
