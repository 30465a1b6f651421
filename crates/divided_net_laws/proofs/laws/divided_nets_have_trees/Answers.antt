use Rattle.divided_net_laws.proofs.JoinedLemmas.{divided_has_tree}
use Rattle.divided_net_laws.proofs.laws.divided_nets_have_trees.Goals as goal

pub returns : goal.returns
returns c = divided_has_tree
