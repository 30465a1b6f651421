use Rattle.vg_scan.proofs.PrintedLemmas.{reads_again, solid, no_reference}
use Rattle.vg_scan.proofs.laws.reads_names_again.Goals as goal

pub returns-clause-again : goal.returns-clause-again
returns-clause-again c = λ chars name h. reads_again chars name h.some

pub returns-clause-word : goal.returns-clause-word
returns-clause-word c = λ chars name h. solid chars name h.solid

pub returns-clause-reference : goal.returns-clause-reference
returns-clause-reference c = no_reference
