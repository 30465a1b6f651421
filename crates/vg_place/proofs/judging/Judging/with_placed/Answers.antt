use Rattle.vg_design.proofs.PartLemmas.{order_within}
use Rattle.vg_place.proofs.judging.Judging.with_placed.Goals as goal

pub into_problem-requires : goal.into_problem-requires
into_problem-requires c =
    let ready = c.args.net.ready in
    order_within c.args.design.now ready.pinned.net ready.pinned.pins ready.tree.nodes ready.order c.requires.posed.ready
