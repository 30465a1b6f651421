use Rattle.std.proofs.Common.{arith}
use Rattle.spef_nodes.proofs.NodeTableLemmas.{no_nodes, table_none}
use Rattle.spef_nodes.proofs.node_table.NodeTable.new.Goals as goal

pub invariant_of-result : goal.invariant_of-result
invariant_of-result c = table_none c.new-2.result c.new-3.result c.in_ok-rows.rows c.new-2.ensures c.new-3.ensures c.in_ok-rows.ensures.rows (omega (arith, c.in_ok-rows.ensures.buckets, c.requires.some))

pub returns : goal.returns
returns c = no_nodes c.new-2.result c.new-3.result c.new-2.ensures
