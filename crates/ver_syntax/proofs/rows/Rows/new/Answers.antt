use Rattle.std.proofs.Common.{sym, subst}
use Rattle.ver_syntax.specs.Rows.{AreLow}
use Rattle.ver_syntax.proofs.RowLemmas.{tokens_low}
use Rattle.ver_syntax.proofs.rows.Rows.new.Goals as goal

pub invariant_of-result : goal.invariant_of-result
invariant_of-result c = subst AreLow (sym c.new.ensures) (tokens_low c.args.text.now c.tokens_stand_in_order.ensures c.requires)
