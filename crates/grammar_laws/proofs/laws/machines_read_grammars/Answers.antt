use Rattle.grammar_laws.proofs.LawLemmas.{goes_on, ends}
use Rattle.grammar_laws.proofs.laws.machines_read_grammars.Goals as goal

pub returns-clause-begins : goal.returns-clause-begins
returns-clause-begins g c = λ rules ways move done m. goes_on rules ways move done m

pub returns-clause-whole : goal.returns-clause-whole
returns-clause-whole g c = λ rules ways move done m. ends rules ways move done m
