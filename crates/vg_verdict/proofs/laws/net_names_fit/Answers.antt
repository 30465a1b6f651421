use Rattle.vg_verdict.proofs.NameLemmas.{names_fit}
use Rattle.vg_verdict.proofs.laws.net_names_fit.Goals as goal

pub returns : goal.returns
returns c = names_fit
