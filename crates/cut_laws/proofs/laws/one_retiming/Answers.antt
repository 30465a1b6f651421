use Rattle.cut_laws.proofs.OneWalkLemmas.{one_retiming as law}
use Rattle.cut_laws.proofs.laws.one_retiming.Goals as goal

pub returns : goal.returns
returns c = law
