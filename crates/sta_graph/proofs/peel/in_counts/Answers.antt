use Rattle.std.proofs.Common.{◌<◌, ◌+◌, ◌^◌, arith, rules}
use Rattle.sta_graph.specs.Paths.{net_count}
use Rattle.sta_graph.proofs.LeftLaws.{read}
use Rattle.sta_graph.proofs.PeelLaws.{counts_more, counts_few}
use Rattle.sta_graph.proofs.peel.in_counts.Goals as goal

pub leads-preserved : goal.leads-preserved
leads-preserved c =
    let to_n : c.to_net-to.result < net_count c.args.g.now = omega (arith, c.requires.graph.lead_nets c.leads.i (omega arith), c.to_net-to.ensures) in
    counts_more c.args.g.now c.leads.counts.items c.leads.i c.to_net-to.result c.index-count.result.now c.requires.graph (omega arith) c.leads.invariant c.to_net-to.ensures
    (read c.leads.counts.items c.to_net-to.result c.index-count.result.now (omega (arith, c.leads.invariant.one_each)) c.index-count.ensures)

pub overflow_add-count : goal.overflow_add-count
overflow_add-count c =
    let to_n : c.to_net-to.result < net_count c.args.g.now = omega (arith, c.requires.graph.lead_nets c.leads.i (omega arith), c.to_net-to.ensures) in
    let few = counts_few c.args.g.now c.leads.counts.items c.leads.i c.to_net-to.result c.leads.invariant to_n in
    let is = read c.leads.counts.items c.to_net-to.result c.index-count.result.now (omega (arith, c.leads.invariant.one_each)) c.index-count.ensures in
    let small : c.index-count.result.now + 1 < 2 ^ 32 = omega (arith, c.requires.small.leads, few, is) in
    search rules
