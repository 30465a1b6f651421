use Rattle.std.proofs.Common.{ℕ, List, subst, sym}
use Rattle.vg_design.specs.Designs.{Design}
use Rattle.vg_design.specs.Nets.{IsPosedNet}
use Rattle.vg_design.specs.Refusals.{IsFirstRefusal, IsJoined}
use Rattle.mode_repair.proofs.nets.Repairing.with_net.Goals as goal

pub with_posed-requires-clause-behind : goal.with_posed-requires-clause-behind
with_posed-requires-clause-behind c =
    let posed = c.in-Ok.posed in
    let is = subst (λ (name : List ℕ). IsPosedNet c.args.design.now name posed) c.in_ok-net.ensures c.in-Ok.ensures.posed in
    let joined = subst (λ (d : Design). IsJoined d c.args.name.now posed.ready.pinned.net) (sym c.requires.design) is.joined in
    (c.requires.free posed.ready.pinned.net joined).0

pub with_posed-requires-clause-fresh : goal.with_posed-requires-clause-fresh
with_posed-requires-clause-fresh c =
    let posed = c.in-Ok.posed in
    let is = subst (λ (name : List ℕ). IsPosedNet c.args.design.now name posed) c.in_ok-net.ensures c.in-Ok.ensures.posed in
    let joined = subst (λ (d : Design). IsJoined d c.args.name.now posed.ready.pinned.net) (sym c.requires.design) is.joined in
    (c.requires.free posed.ready.pinned.net joined).1

pub returns-in-Err-Net : goal.returns-in-Err-Net
returns-in-Err-Net c =
    let d = c.args.design.now in
    let refused = rw c.in-Err-Net.field-0-is at c.in-Err-Net.ensures.refused in
    let told = subst (λ (name : List ℕ). IsFirstRefusal d name c.in-Err-Net.refusal) c.in_ok-net.ensures refused in
    c.with_refused.ensures d c.args.goal (subst (IsFirstRefusal d c.args.name.now) (sym c.in-Err-Net.refusal-is) told)
