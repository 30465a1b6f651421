use Rattle.ver_file.proofs.LawLemmas.{links_are_own}
use Rattle.ver_file.proofs.laws.links_are_own.Goals as goal

pub returns : goal.returns
returns c = links_are_own
