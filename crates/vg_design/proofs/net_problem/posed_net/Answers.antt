use Rattle.vg_design.proofs.AcceptLemmas.{nothing_refuses, past_limits, unconstrained}
use Rattle.vg_design.proofs.ReadyLemmas.{none_there}
use Rattle.vg_design.specs.Steps.{FindsUnconstrained, MakesProblem}
use Rattle.vg_design.proofs.net_problem.posed_net.Goals as goal

pub returns-in-Some-clause-refused : goal.returns-in-Some-clause-refused
returns-in-Some-clause-refused c =
    unconstrained c.args.design.now c.args.net.now c.in_ok-ready.ready.pinned.net c.in-Some.sink c.in_ok-ready.ensures.accepted (rw c.in-Some.is at c.in_ok-sink.ensures)

pub returns-in_default-2-clause-refused : goal.returns-in_default-2-clause-refused
returns-in_default-2-clause-refused c =
    let ready = c.in_ok-ready.ready in
    past_limits c.args.design.now c.args.net.now ready.pinned.net ready.pinned.pins ready.tree.nodes ready.order c.in_ok-ready.ensures.accepted c.in_ok-ready.ensures.ready
    (none_there (FindsUnconstrained c.args.design.now.rows ready.pinned.net.par) c.in_ok-sink.field-0 c.in_default.not-Some c.in_ok-sink.ensures)
    (none_there (MakesProblem c.args.design.now ready.pinned.net ready.tree.nodes ready.order) c.in_ok-problem.field-0 c.in_default-2.not-Some c.in_ok-problem.ensures)

pub returns-clause-posed : goal.returns-clause-posed
returns-clause-posed c =
    let ready = c.in_ok-ready.ready in
    let made = rw c.in-Some-2.is at c.in_ok-problem.ensures in
    record {
      accepted = nothing_refuses c.args.design.now c.args.net.now ready.pinned.net ready.pinned.pins ready.tree.nodes ready.order c.in_ok-ready.ensures.accepted c.in_ok-ready.ensures.ready
          (none_there (FindsUnconstrained c.args.design.now.rows ready.pinned.net.par) c.in_ok-sink.field-0 c.in_default.not-Some c.in_ok-sink.ensures) made.1;
      joined = c.in_ok-ready.ensures.accepted.joined;
      ready = c.in_ok-ready.ensures.ready;
      problem = made.0;
    }
