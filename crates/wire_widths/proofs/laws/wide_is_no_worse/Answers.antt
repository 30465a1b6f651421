use Rattle.wire_widths.proofs.PlainLemmas.{wide_no_worse}
use Rattle.wire_widths.proofs.laws.wide_is_no_worse.Goals as goal

pub returns : goal.returns
returns c = wide_no_worse
