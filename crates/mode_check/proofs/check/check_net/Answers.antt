use Rattle.std.proofs.Common.{ℕ, List, subst}
use Rattle.vg_design.specs.Refusals.{IsFirstRefusal}
use Rattle.mode_check.proofs.CheckLemmas.{check_refused}
use Rattle.mode_check.proofs.check.check_net.Goals as goal

pub returns-in-Err-Net : goal.returns-in-Err-Net
returns-in-Err-Net c =
    let d = c.args.design.now in
    let refusal = c.in-Err-Net.refusal in
    let refused = rw c.in-Err-Net.field-0-is at c.in-Err-Net.ensures.refused in
    check_refused d c.args.name.now c.args.cert.now refusal c.refuse.result
    (subst (λ (name : List ℕ). IsFirstRefusal d name refusal) c.in_ok-net.ensures refused) c.refuse.ensures
