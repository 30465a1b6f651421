use Rattle.std.proofs.Common.{sym, arith}
use Rattle.ver_module.proofs.RangeLemmas.{rising, falling, rising_bit, falling_bit}
use Rattle.ver_module.proofs.range.Range.bit.Goals as goal

pub overflow_cast-result : goal.overflow_cast-result
overflow_cast-result c = let e = rising c.args.self c.if-self.true in omega (arith, e, c.requires)

pub overflow_add-result : goal.overflow_add-result
overflow_add-result c = let e = rising c.args.self c.if-self.true in omega (arith, e, c.requires, c.if-self.true)

pub overflow_cast-result-else-self : goal.overflow_cast-result-else-self
overflow_cast-result-else-self c = let e = falling c.args.self c.if-self.false in omega (arith, e, c.requires)

pub overflow_sub-result : goal.overflow_sub-result
overflow_sub-result c = let e = falling c.args.self c.if-self.false in omega (arith, e, c.requires)

pub returns-then-self : goal.returns-then-self
returns-then-self c = let e = rising c.args.self c.if-self.true in sym (rising_bit c.args.self c.args.at c.if-self.true (omega (arith, e, c.requires)))

pub returns-else-self : goal.returns-else-self
returns-else-self c = let e = falling c.args.self c.if-self.false in sym (falling_bit c.args.self c.args.at c.if-self.false (omega (arith, e, c.requires)))
