use Rattle.std.proofs.Common.{arith, ◌∙◌}
use Rattle.vg_num.proofs.PrintingLemmas.{zero_cancels, no_fraction, last_digit}
use Rattle.vg_num.proofs.print.without_zeros.Goals as goal

pub zeros-preserved : goal.zeros-preserved
zeros-preserved c = record {
  same = c.zeros.invariant.same ∙ zero_cancels c.zeros.digits c.zeros.kept (omega arith) (omega arith);
  few = omega arith;
}

pub returns-else-digits-eq0-clause-text : goal.returns-else-digits-eq0-clause-text
returns-else-digits-eq0-clause-text c = c.zeros.invariant.same ∙ last_digit c.zeros.digits c.zeros.kept (omega arith) (λ e. omega arith)

pub returns-after-zeros-clause-text : goal.returns-after-zeros-clause-text
returns-after-zeros-clause-text c = c.zeros.invariant.same ∙ no_fraction c.zeros.digits c.zeros.kept (omega arith)
