use Rattle.spef_write.proofs.NodeLemmas.{node_again}
use Rattle.spef_write.proofs.laws.nodes_again.Goals as goal

pub returns : goal.returns
returns c = λ file node some. node_again file node.owner node.leaf some
