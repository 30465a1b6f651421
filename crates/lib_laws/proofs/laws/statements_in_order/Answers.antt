use Rattle.lib_laws.proofs.LawLemmas.{in_order}
use Rattle.lib_laws.proofs.laws.statements_in_order.Goals as goal

pub returns : goal.returns
returns c = in_order
