use Rattle.std.proofs.Common.{◌+◌, IfOk, List, [], subst, ℕ}
use Rattle.std.proofs.lemmas.Result.{IfOk-weaker}
use Rattle.spef_wire.specs.declared.refusal.Refusal.{Refusal}
use Rattle.vg_answer.specs.declared.kind.AnswerKind.TheVariants.{Refusal as Refused}
use Rattle.vg_design.specs.Nets.{IsPosedNet}
use Rattle.vg_design.specs.Refusals.{IsFirstRefusal}
use Rattle.vg_design.proofs.AcceptLemmas.{problem_is}
use Rattle.vg_design.proofs.PartLemmas.{order_within}
use Rattle.vg_report.specs.Reports.{refusal_line}
use Rattle.mode_total.specs.Steps.{AreWeighed, HasFront, IsOneMore}
use Rattle.mode_total.proofs.WeighLemmas.{weighed_front, weighed_refused}
use Rattle.mode_total.proofs.nets.Weighed.with_net.Goals as goal

pub into_problem-requires : goal.into_problem-requires
into_problem-requires c =
    let ready = c.in-Ok.posed.ready in
    order_within c.args.design.now ready.pinned.net ready.pinned.pins ready.tree.nodes ready.order c.in-Ok.ensures.posed.ready

pub returns-in-Ok : goal.returns-in-Ok
returns-in-Ok c =
    let d = c.args.design.now in
    let cap = c.args.cap in
    let place = c.args.place in
    let name = c.net_name-name.result.now in
    let posed = c.in-Ok.posed in
    let net = c.into_problem.result in
    let of = subst (λ (n : List ℕ). IsPosedNet d n posed) c.in_ok-net.ensures c.in-Ok.ensures.posed in
    let is = problem_is d name posed net of c.into_problem.ensures.problem c.into_problem.ensures.names in
    IfOk-weaker c.with_front.result (HasFront c.args.self place net cap) (AreWeighed d cap (place + 1))
    (λ new has. weighed_front d cap place c.args.self new name c.net_name-name.ensures c.requires.before net is has) c.with_front.ensures

pub returns-in-Err-Net : goal.returns-in-Err-Net
returns-in-Err-Net c =
    let d = c.args.design.now in
    let cap = c.args.cap in
    let place = c.args.place in
    let name = c.net_name-name.result.now in
    let refusal = c.in-Err-Net.refusal in
    let refused = rw c.in-Err-Net.field-0-is at c.in-Err-Net.ensures.refused in
    let first = subst (λ (n : List ℕ). IsFirstRefusal d n refusal) c.in_ok-net.ensures refused in
    let told = subst (λ (r : Refusal). IfOk c.with_refused.result (IsOneMore c.args.self Refused (refusal_line name r) [] [])) c.in-Err-Net.refusal-is
    c.with_refused.ensures in
    IfOk-weaker c.with_refused.result (IsOneMore c.args.self Refused (refusal_line name refusal) [] []) (AreWeighed d cap (place + 1))
    (λ new more. weighed_refused d cap place c.args.self new name c.net_name-name.ensures c.requires.before refusal first more) told
