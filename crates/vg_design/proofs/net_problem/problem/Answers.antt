use Rattle.vg_design.proofs.AcceptLemmas.{problem_is}
use Rattle.vg_design.proofs.PartLemmas.{order_within}
use Rattle.vg_design.proofs.net_problem.problem.Goals as goal

pub into_problem-requires : goal.into_problem-requires
into_problem-requires c =
    let ready = c.in_ok-posed.posed.ready in
    order_within c.args.design.now ready.pinned.net ready.pinned.pins ready.tree.nodes ready.order c.in_ok-posed.ensures.posed.ready

pub returns-clause-problem : goal.returns-clause-problem
returns-clause-problem c =
    problem_is c.args.design.now c.args.net.now c.in_ok-posed.posed c.into_problem.result c.in_ok-posed.ensures.posed c.into_problem.ensures.problem c.into_problem.ensures.names
