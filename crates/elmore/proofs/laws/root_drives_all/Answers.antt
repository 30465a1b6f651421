use Rattle.elmore.proofs.TreeLemmas.{root_load}
use Rattle.elmore.proofs.laws.root_drives_all.Goals as goal

pub returns : goal.returns
returns c = root_load
