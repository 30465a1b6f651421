use Rattle.sta_graph.proofs.BeginLaws.{slack_made, slack_to_is}
use Rattle.sta_graph.proofs.slacks.slack_to.Goals as goal

pub overflow_sub-result-2 : goal.overflow_sub-result-2
overflow_sub-result-2 c =
    (slack_made c.args.g.now c.args.j c.sink_at-sink.result c.args.arrivals.now c.held-arrival.result c.requires.graph c.requires.small c.requires.sink c.sink_at-sink.ensures
    c.requires.arrivals c.held-arrival.ensures).fits

pub returns : goal.returns
returns c =
    let d = slack_made c.args.g.now c.args.j c.sink_at-sink.result c.args.arrivals.now c.held-arrival.result c.requires.graph c.requires.small c.requires.sink c.sink_at-sink.ensures
    c.requires.arrivals c.held-arrival.ensures in
    slack_to_is c.args.g.now c.args.j c.sink_at-sink.result c.args.arrivals.now c.held-arrival.result _ c.requires.small c.requires.sink c.sink_at-sink.ensures c.held-arrival.ensures d.is
