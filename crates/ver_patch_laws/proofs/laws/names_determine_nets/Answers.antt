use Rattle.ver_patch_laws.proofs.NamedLemmas.{linked_nets_are_there as all_there, links_go_by_names as all_by_names, names_determine_nets as all_numbered}
use Rattle.ver_patch_laws.proofs.laws.names_determine_nets.Goals as goal

pub returns-clause-there : goal.returns-clause-there
returns-clause-there c = all_there

pub returns-clause-number : goal.returns-clause-number
returns-clause-number c = all_numbered

pub returns-clause-pins : goal.returns-clause-pins
returns-clause-pins c = all_by_names
