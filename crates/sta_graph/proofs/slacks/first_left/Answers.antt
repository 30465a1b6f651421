use Rattle.std.proofs.Common.{◌<◌, arith, get_or}
use Rattle.sta_graph.proofs.slacks.first_left.Goals as goal

pub returns-then-counts-v-ne0 : goal.returns-then-counts-v-ne0
returns-then-counts-v-ne0 c =
    let some : 0 < get_or c.args.counts.now c.nets.v 0 = omega (arith, c.if-counts-v-ne0.true) in
    record { within = c.nets-test.true; counted = some; before = c.nets.invariant }
