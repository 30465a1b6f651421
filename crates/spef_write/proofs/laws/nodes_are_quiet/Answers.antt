use Rattle.spef_write.proofs.QuietLemmas.{node_quiet}
use Rattle.spef_write.proofs.laws.nodes_are_quiet.Goals as goal

pub returns : goal.returns
returns c = λ chars node. node_quiet chars node.owner node.leaf
