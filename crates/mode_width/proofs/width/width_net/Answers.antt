use Rattle.std.proofs.Common.{ℕ, List, subst}
use Rattle.vg_design.specs.Nets.{IsPosedNet}
use Rattle.vg_design.specs.Refusals.{IsFirstRefusal}
use Rattle.vg_design.proofs.PartLemmas.{order_within}
use Rattle.mode_width.proofs.WidthLemmas.{says_refused}
use Rattle.mode_width.proofs.width.width_net.Goals as goal

pub width_posed-requires : goal.width_posed-requires
width_posed-requires c = (
  c.in-Ok.posed,
  subst (λ (name : List ℕ). IsPosedNet c.args.design.now name c.in-Ok.posed) c.in_ok-net.ensures c.in-Ok.ensures.posed,
  λ i. record { problem = c.into_problem.ensures.problem i; names = c.into_problem.ensures.names i },
)

pub into_problem-requires : goal.into_problem-requires
into_problem-requires c =
    let ready = c.in-Ok.posed.ready in
    order_within c.args.design.now ready.pinned.net ready.pinned.pins ready.tree.nodes ready.order c.in-Ok.ensures.posed.ready

pub returns-in-Err-Net : goal.returns-in-Err-Net
returns-in-Err-Net c =
    let d = c.args.design.now in
    let refusal = c.in-Err-Net.refusal in
    let refused = rw c.in-Err-Net.field-0-is at c.in-Err-Net.ensures.refused in
    says_refused d c.args.widths.now.rows c.args.name.now refusal c.refuse.result
    (subst (λ (name : List ℕ). IsFirstRefusal d name refusal) c.in_ok-net.ensures refused) c.refuse.ensures
