use Rattle.change_spef_laws.proofs.ReplacedLemmas.{sections_replaced}
use Rattle.change_spef_laws.proofs.laws.sections_are_replaced.Goals as goal

pub returns : goal.returns
returns c = sections_replaced
