use Rattle.std.proofs.Common.{refl}
use Rattle.vg_sta.proofs.GraphLemmas.{listed_is}
use Rattle.vg_sta.proofs.timing.graph_of.Goals as goal

pub returns-clause-graph : goal.returns-clause-graph
returns-clause-graph c =
    listed_is c.args.design.now c.in_ok-arrivals.field-0 _ c.in_ok-arrivals.ensures.lists c.requires c.from_vec.ensures c.from_vec-2.ensures c.from_vec-3.ensures refl
