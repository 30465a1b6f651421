use Rattle.wire_widths.proofs.WideSpliceLemmas.{wide_steps, step_wide}
use Rattle.wire_widths.proofs.laws.wide_pairs_step.Goals as goal

pub returns : goal.returns
returns c = λ p widths v odd x are. (wide_steps p widths v odd x are, step_wide p widths v odd x are)
