use Rattle.std.proofs.Common.{ℕ, List, subst, sym}
use Rattle.vg_design.specs.Designs.{Design}
use Rattle.vg_design.specs.Nets.{IsPosedNet}
use Rattle.vg_design.specs.Refusals.{IsFirstRefusal, IsJoined}
use Rattle.mode_best.proofs.CertLemmas.{refused_one}
use Rattle.mode_best.proofs.nets.judge_net.Goals as goal

pub judge_posed-requires-clause-behind : goal.judge_posed-requires-clause-behind
judge_posed-requires-clause-behind c =
    let posed = c.in-Ok.posed in
    let is = subst (λ (name : List ℕ). IsPosedNet c.args.design.now name posed) c.in_ok-net.ensures c.in-Ok.ensures.posed in
    let joined = subst (λ (d : Design). IsJoined d c.args.name.now posed.ready.pinned.net) (sym c.requires.design) is.joined in
    (c.requires.free posed.ready.pinned.net joined).0

pub judge_posed-requires-clause-fresh : goal.judge_posed-requires-clause-fresh
judge_posed-requires-clause-fresh c =
    let posed = c.in-Ok.posed in
    let is = subst (λ (name : List ℕ). IsPosedNet c.args.design.now name posed) c.in_ok-net.ensures c.in-Ok.ensures.posed in
    let joined = subst (λ (d : Design). IsJoined d c.args.name.now posed.ready.pinned.net) (sym c.requires.design) is.joined in
    (c.requires.free posed.ready.pinned.net joined).1

pub returns-in-Err-Net : goal.returns-in-Err-Net
returns-in-Err-Net c =
    let d = c.args.design.now in
    let refused = rw c.in-Err-Net.field-0-is at c.in-Err-Net.ensures.refused in
    refused_one d c.args.name.now c.args.is_certified c.in-Err-Net.refusal c.args.judging c.in_ok-judging-in-Err-Net.judging
    (subst (λ (name : List ℕ). IsFirstRefusal d name c.in-Err-Net.refusal) c.in_ok-net.ensures refused) c.in_ok-judging-in-Err-Net.ensures
