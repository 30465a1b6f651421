use Rattle.ver_file.proofs.LawLemmas.{names_are_distinct, nets_are_named}
use Rattle.ver_file.proofs.laws.nets_have_their_names.Goals as goal

pub returns-clause-distinct : goal.returns-clause-distinct
returns-clause-distinct c = names_are_distinct

pub returns-clause-named : goal.returns-clause-named
returns-clause-named c = nets_are_named
