use Rattle.ver_patch_laws.proofs.NamedLemmas.{links_are_named as all_named, names_are_linked as all_linked}
use Rattle.ver_patch_laws.proofs.laws.links_are_named.Goals as goal

pub returns-clause-links : goal.returns-clause-links
returns-clause-links c = all_named

pub returns-clause-names : goal.returns-clause-names
returns-clause-names c = all_linked
