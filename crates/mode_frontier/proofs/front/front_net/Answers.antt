use Rattle.std.proofs.Common.{ℕ, List, refl, subst}
use Rattle.vg_design.specs.Nets.{IsPosedNet}
use Rattle.vg_design.specs.Refusals.{IsFirstRefusal}
use Rattle.vg_design.proofs.PartLemmas.{order_within}
use Rattle.vg_report.specs.Reports.{refusal_line}
use Rattle.mode_frontier.specs.Answers.{IsFrontSaid}
use Rattle.mode_frontier.proofs.front.front_net.Goals as goal

pub front_posed-requires : goal.front_posed-requires
front_posed-requires c = (
  c.in-Ok.posed,
  subst (λ (name : List ℕ). IsPosedNet c.args.design.now name c.in-Ok.posed) c.in_ok-net.ensures c.in-Ok.ensures.posed,
  λ i. record { problem = c.into_problem.ensures.problem i; names = c.into_problem.ensures.names i },
)

pub into_problem-requires : goal.into_problem-requires
into_problem-requires c =
    let ready = c.in-Ok.posed.ready in
    order_within c.args.design.now ready.pinned.net ready.pinned.pins ready.tree.nodes ready.order c.in-Ok.ensures.posed.ready

pub returns-in-Err-Net : goal.returns-in-Err-Net
returns-in-Err-Net c =
    let d = c.args.design.now in
    let refusal = c.in-Err-Net.refusal in
    let refused = rw c.in-Err-Net.field-0-is at c.in-Err-Net.ensures.refused in
    record {
      text = refusal_line c.args.name.now refusal;
      says = IsFrontSaid.told_refusal refusal (subst (λ (name : List ℕ). IsFirstRefusal d name refusal) c.in_ok-net.ensures refused) refl;
      is = rw c.in-Err-Net.field-0-is at c.in_ok-print_refusal-in-Err-Net.ensures.printed;
    }
