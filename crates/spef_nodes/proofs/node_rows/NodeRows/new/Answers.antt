use Rattle.std.proofs.Common.{refl}
use Rattle.name_tables.proofs.FiledLemmas.{filed_none}
use Rattle.spef_nodes.specs.NodeTables.{node_hash}
use Rattle.spef_nodes.specs.OrderedNodes.{node_row}
use Rattle.spef_nodes.proofs.node_rows.NodeRows.new.Goals as goal

pub returns-clause-rows : goal.returns-clause-rows
returns-clause-rows c = record {
  filed = filed_none node_hash (node_row c.new-ordered.result) _ c.in_ok-chains.chains refl c.in_ok-chains.ensures.chains c.in_ok-chains.ensures.rows c.new-ordered.ensures.empty;
  places = c.new-ordered.ensures.places;
}
