use Rattle.wire_widths.proofs.WideLoadLemmas.{are_elmore}
use Rattle.wire_widths.proofs.laws.widths_are_elmore.Goals as goal

pub returns : goal.returns
returns c = are_elmore
