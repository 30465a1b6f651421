use Rattle.vg_sta.proofs.GraphLemmas.{graph_small}
use Rattle.vg_sta.proofs.timing.sta.Goals as goal

pub time_graph-requires-clause-small : goal.time_graph-requires-clause-small
time_graph-requires-clause-small c =
    let listed = c.in_ok-listed.ensures.graph in
    graph_small c.args.design.now listed.nets c.in_ok-listed.listed.graph listed.graph_of listed.few_nets listed.few_sinks listed.few_leads
