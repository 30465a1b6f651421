use Rattle.grammar_laws.proofs.LawLemmas.{break_once as breaks_once}
use Rattle.grammar_laws.proofs.laws.break_once.Goals as goal

pub returns : goal.returns
returns g c = λ rules. breaks_once rules
