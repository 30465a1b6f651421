use Rattle.std.proofs.Common.{◌∙◌}
use Rattle.vg_change.proofs.BeginLemmas.{empty_is, more_digits, no_digits, one_digit, other_end}
use Rattle.vg_change.proofs.begins.+are_digits.Goals as goal

pub returns-in_default : goal.returns-in_default
returns-in_default t c = no_digits c.args.number c.ranges.number.fits c.args.digits.now c.in_default.ensures.cases

pub returns-then-last-number : goal.returns-then-last-number
returns-then-last-number t c =
    other_end c.args.number c.ranges.number.fits c.args.digits.now c.in-Some.front.now c.in-Some.last.now c.in-Some.ensures.cases.0 c.if-last-number.true

pub returns-then-number-lt10 : goal.returns-then-number-lt10
returns-then-number-lt10 t c =
    c.is_empty.ensures ∙ empty_is c.in-Some.front.now ∙ one_digit c.args.number c.if-number-lt10.true c.args.digits.now c.in-Some.front.now c.in-Some.last.now c.in-Some.ensures.cases.0 c.if-last-number.false

pub returns-else-number-lt10 : goal.returns-else-number-lt10
returns-else-number-lt10 t c =
    c.are_digits.ensures
    ∙ more_digits c.args.number c.if-number-lt10.false c.ranges.number.fits c.args.digits.now c.in-Some.front.now c.in-Some.last.now c.in-Some.ensures.cases.0 c.if-last-number.false
