use Rattle.std.proofs.Common.{ap}
use Rattle.spef_nodes.specs.OrderedNodes.{node_row, row_among, rows_at}
use Rattle.spef_nodes.proofs.ordered_nodes.OrderedNodes.new.Goals as goal

pub returns-clause-empty : goal.returns-clause-empty
unfolding node_row
returns-clause-empty c node = ap (λ r. row_among (rows_at c.new-2.result.items r) node.leaf) (c.new.ensures node.owner)
