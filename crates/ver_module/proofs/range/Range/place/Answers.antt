use Rattle.std.proofs.Common.{sym, ◌∙◌}
use Rattle.ver_module.proofs.RangeLemmas.{bit_place}
use Rattle.ver_module.proofs.range.Range.place.Goals as goal

pub returns-clause-within : goal.returns-clause-within
returns-clause-within c = (bit_place c.args.self c.args.bit c.abs_diff.result (sym c.has.ensures ∙ c.if-not-has.false) c.abs_diff.ensures).0

pub returns-clause-bit : goal.returns-clause-bit
returns-clause-bit c = (bit_place c.args.self c.args.bit c.abs_diff.result (sym c.has.ensures ∙ c.if-not-has.false) c.abs_diff.ensures).1
