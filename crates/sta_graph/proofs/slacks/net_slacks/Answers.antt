use Rattle.std.proofs.Common.{◌+◌, subst, sym}
use Rattle.sta_graph.specs.Begins.{AreDifferences}
use Rattle.sta_graph.proofs.BeginLaws.{differences_more, differ_held}
use Rattle.sta_graph.proofs.slacks.net_slacks.Goals as goal

pub nets-preserved : goal.nets-preserved
nets-preserved c =
    let d = differ_held _ _ c.held.result c.held-in-nets.result (c.requires.required c.nets.v c.nets-test.true) (c.requires.arrivals c.nets.v c.nets-test.true) c.held.ensures c.held-in-nets.ensures in
    subst (AreDifferences c.args.arrivals.now c.args.required.now (c.nets.v + 1)) (sym c.in_ok-push.ensures.items)
    (differences_more c.args.arrivals.now c.args.required.now c.nets.v c.nets.slacks.items c.held-in-nets.result c.held.result _ c.nets.invariant c.held-in-nets.ensures c.held.ensures d.is)
