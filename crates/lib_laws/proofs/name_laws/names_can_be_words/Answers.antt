use Rattle.lib_laws.proofs.NameLemmas.{are_names_of, are_words}
use Rattle.lib_laws.proofs.name_laws.names_can_be_words.Goals as goal

pub returns-clause-names : goal.returns-clause-names
returns-clause-names c = are_names_of

pub returns-clause-words : goal.returns-clause-words
returns-clause-words c = are_words
