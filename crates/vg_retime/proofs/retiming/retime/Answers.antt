use Rattle.std.proofs.Common.{ℤ, Option, Some, None, IfSome, refl, sym, subst}
use Rattle.std.proofs.lemmas.Result.{err_from_is_err_and}
use Rattle.elmore.specs.Problems.{IsDriverWithin}
use Rattle.vg_retime.specs.Retimings.{unknown}
use Rattle.vg_retime.specs.Times.{IsTime}
use Rattle.vg_retime.specs.Ways.{IsFirstNet}
use Rattle.vg_retime.specs.declared.climb.First.{First}
use Rattle.vg_retime.proofs.SlackLemmas.{less_fits, slack_fits, slack_is}
use Rattle.vg_retime.proofs.WayLemmas.{asked_is, asked_within, refused_down, refused_up, retimed, sinkless}
use Rattle.vg_retime.proofs.retiming.retime.Goals as goal

pub returns-in_default-clause-refused : goal.returns-in_default-clause-refused
returns-in_default-clause-refused c =
    unknown (asked_is c.netlist.result.now c.args.design.now.netlist c.as_bytes.result.now c.args.net.now c.find_net.result None c.netlist.ensures c.as_bytes.ensures c.find_net.ensures c.in_default.is)
    refl

pub climb-requires : goal.climb-requires
climb-requires c =
    asked_within c.args.design.now.netlist c.args.net.now c.in-Some.id
    (asked_is c.netlist.result.now c.args.design.now.netlist c.as_bytes.result.now c.args.net.now c.find_net.result (Some c.in-Some.id) c.netlist.ensures c.as_bytes.ensures c.find_net.ensures c.in-Some.is)

pub returns-in_err-first-clause-refused : goal.returns-in_err-first-clause-refused
returns-in_err-first-clause-refused c =
    let p = err_from_is_err_and c.from_residual.result c.from_residual.ensures.1 in
    rw (p.1, p.2) (refused_up c.args.design.now c.args.prefix.now c.args.net.now c.in-Some.id
    (asked_is c.netlist.result.now c.args.design.now.netlist c.as_bytes.result.now c.args.net.now c.find_net.result (Some c.in-Some.id) c.netlist.ensures c.as_bytes.ensures c.find_net.ensures c.in-Some.is)
    c.in_err-first.field-0.0 c.in_err-first.ensures.refused)

pub go_down-requires : goal.go_down-requires
go_down-requires c = record { first = c.in_ok-first.ensures.within; net = c.in_ok-first.ensures.net; sized = c.in_ok-first.ensures.sized }

pub returns-in_err-walk-clause-refused : goal.returns-in_err-walk-clause-refused
returns-in_err-walk-clause-refused c =
    let p = err_from_is_err_and c.from_residual-in_err-walk.result c.from_residual-in_err-walk.ensures.1 in
    rw (p.1, p.2) (refused_down c.args.design.now c.args.prefix.now c.args.net.now c.in-Some.id
    (asked_is c.netlist.result.now c.args.design.now.netlist c.as_bytes.result.now c.args.net.now c.find_net.result (Some c.in-Some.id) c.netlist.ensures c.as_bytes.ensures c.find_net.ensures c.in-Some.is)
    c.in_ok-first.first c.in_ok-first.ensures.first c.in_err-walk.field-0.0 c.in_err-walk.ensures.refused)

pub returns-in_default-least-clause-refused : goal.returns-in_default-least-clause-refused
returns-in_default-least-clause-refused c =
    sinkless c.args.design.now c.args.prefix.now c.args.net.now c.in-Some.id c.in_ok-walk.walk
    (asked_is c.netlist.result.now c.args.design.now.netlist c.as_bytes.result.now c.args.net.now c.find_net.result (Some c.in-Some.id) c.netlist.ensures c.as_bytes.ensures c.find_net.ensures c.in-Some.is)
    (subst (IsFirstNet 17 c.args.design.now c.args.prefix.now c.in-Some.id) (sym c.in_ok-walk.ensures.first) c.in_ok-first.ensures.first)
    c.in_ok-walk.ensures.walk c.in_default-least.is

pub overflow_sub-result : goal.overflow_sub-result
overflow_sub-result c =
    let driver : IsDriverWithin c.in_ok-walk.walk.first.driver = subst (λ (f : First). IsDriverWithin f.driver) (sym c.in_ok-walk.ensures.first) c.in_ok-first.ensures.within.driver in
    let time : IsTime c.in-Some-least.left = subst (λ (o : Option ℤ). IfSome o IsTime) c.in-Some-least.is c.in_ok-walk.ensures.walk.kept.small in
    less_fits c.in-Some-least.left c.in_ok-walk.walk.first.driver.arrival time driver.arrival

pub overflow_sub-result-2 : goal.overflow_sub-result-2
overflow_sub-result-2 c =
    let driver : IsDriverWithin c.in_ok-walk.walk.first.driver = subst (λ (f : First). IsDriverWithin f.driver) (sym c.in_ok-walk.ensures.first) c.in_ok-first.ensures.within.driver in
    let time : IsTime c.in-Some-least.left = subst (λ (o : Option ℤ). IfSome o IsTime) c.in-Some-least.is c.in_ok-walk.ensures.walk.kept.small in
    slack_fits c.in-Some-least.left c.in_ok-walk.walk.first.driver.arrival time driver.arrival c.in_ok-walk.walk.first.driver.k driver.k

pub returns-clause-timed : goal.returns-clause-timed
returns-clause-timed c =
    let driver : IsDriverWithin c.in_ok-walk.walk.first.driver = subst (λ (f : First). IsDriverWithin f.driver) (sym c.in_ok-walk.ensures.first) c.in_ok-first.ensures.within.driver in
    let time : IsTime c.in-Some-least.left = subst (λ (o : Option ℤ). IfSome o IsTime) c.in-Some-least.is c.in_ok-walk.ensures.walk.kept.small in
    retimed c.args.design.now c.args.prefix.now c.args.net.now c.in-Some.id c.in_ok-walk.walk
    (asked_is c.netlist.result.now c.args.design.now.netlist c.as_bytes.result.now c.args.net.now c.find_net.result (Some c.in-Some.id) c.netlist.ensures c.as_bytes.ensures c.find_net.ensures c.in-Some.is)
    (subst (IsFirstNet 17 c.args.design.now c.args.prefix.now c.in-Some.id) (sym c.in_ok-walk.ensures.first) c.in_ok-first.ensures.first)
    c.in_ok-walk.ensures.walk c.in-Some-least.left _ c.in-Some-least.is
    (slack_is c.in-Some-least.left c.in_ok-walk.walk.first.driver.arrival time driver.arrival c.in_ok-walk.walk.first.driver.k driver.k)
    refl
