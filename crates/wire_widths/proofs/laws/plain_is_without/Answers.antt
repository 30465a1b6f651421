use Rattle.wire_widths.proofs.PlainLemmas.{plain_without}
use Rattle.wire_widths.proofs.laws.plain_is_without.Goals as goal

pub returns : goal.returns
returns c = plain_without
