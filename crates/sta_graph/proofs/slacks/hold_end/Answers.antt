use Rattle.std.proofs.Common.{arith, rules}
use Rattle.std.proofs.lemmas.Int.{to_z-of_z}
use mir.Syntax.{w128}
use mir.Val.{SFits}
use Rattle.sta_graph.proofs.PassLaws.{difference_is}
use Rattle.sta_graph.proofs.BeginLaws.{ended_by, sink_within}
use Rattle.sta_graph.proofs.slacks.hold_end.Goals as goal

pub returns : goal.returns
returns c =
    let w = sink_within c.args.g.now c.args.j c.sink_at-sink.result c.requires.small c.requires.sink c.sink_at-sink.ensures in
    let d = difference_is 1 c.sink_at-sink.result.required c.sink_at-sink.result.delay (omega arith) w.0 w.1 in
    let whole : SFits w128 c.earlier-time.result = search rules in
    ended_by c.args.g.now c.args.j c.sink_at-sink.result c.args.times.now _ c.earlier-time.result _ c.sink_at-sink.ensures d.1 c.earlier-time.ensures
    (to_z-of_z w128 c.earlier-time.result whole)

pub overflow_sub-sink : goal.overflow_sub-sink
overflow_sub-sink c =
    let w = sink_within c.args.g.now c.args.j c.sink_at-sink.result c.requires.small c.requires.sink c.sink_at-sink.ensures in
    (difference_is 1 c.sink_at-sink.result.required c.sink_at-sink.result.delay (omega arith) w.0 w.1).0
