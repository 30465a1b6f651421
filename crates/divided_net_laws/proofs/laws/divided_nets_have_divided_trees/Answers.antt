use Rattle.divided_net_laws.proofs.DividedTreeLemmas.{divided_tree}
use Rattle.divided_net_laws.proofs.laws.divided_nets_have_divided_trees.Goals as goal

pub returns : goal.returns
returns c = divided_tree
