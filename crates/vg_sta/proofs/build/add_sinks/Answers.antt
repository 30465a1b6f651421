use Rattle.std.proofs.Common.{◌∙◌, arith, sym}
use Rattle.vg_sta.proofs.AddLemmas.{sink_added}
use Rattle.vg_sta.proofs.build.add_sinks.Goals as goal

pub sink-preserved : goal.sink-preserved
sink-preserved c =
    let test = c.sink-test.true in
    let size = c.len-at-end.ensures in
    sink_added c.args.outputs.now c.args.section c.args.net.now c.sink.at c.args.lists.now c.sink.lists c.add_sink.new.lists (omega (arith, test, size))
    c.sink.invariant c.in_ok-add_sink.ensures.sink (sym c.in_ok-add_sink.ensures.bound ∙ c.if-not-branch.false)
