use Rattle.rc_tree.proofs.OneTreeLemmas.{one_tree as law}
use Rattle.rc_tree.proofs.laws.one_tree.Goals as goal

pub returns : goal.returns
returns c = law
