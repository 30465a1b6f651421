use Rattle.change_netlist_laws.proofs.PrefixLemmas.{nets_are_split, prefixes_are_words}
use Rattle.change_netlist_laws.proofs.laws.nets_are_split.Goals as goal

pub returns-clause-words : goal.returns-clause-words
returns-clause-words c = prefixes_are_words

pub returns-clause-split : goal.returns-clause-split
returns-clause-split c = nets_are_split
