use Rattle.ver_net.proofs.StepLemmas.{kept_rows}
use Rattle.ver_net.proofs.sparse.SparseRows.of.Goals as goal

pub returns : goal.returns
returns c = kept_rows c.args.netlist.now c.in_ok-rows.rows c.net_count-count.result c.in_ok-rows.ensures c.net_count-count.ensures
