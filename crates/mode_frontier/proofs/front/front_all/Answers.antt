use Rattle.std.proofs.Common.{ℕ, List, arith, refl, subst, sym}
use Rattle.std.proofs.lemmas.List.{take_all}
use Rattle.vg_design.specs.Designs.{net_names}
use Rattle.mode_frontier.specs.Answers.{IsFrontSaid}
use Rattle.vg_answer.specs.Verdicts.{AreSaid}
use Rattle.vg_answer.proofs.VerdictLemmas.{said_as, said_net, take_next}
use Rattle.mode_frontier.proofs.front.front_all.Goals as goal

pub net-preserved : goal.net-preserved
net-preserved c =
    let names = net_names c.args.design.now.spef in
    let name = c.net_name-name.result.now in
    let Says = IsFrontSaid c.args.design.now c.args.cap in
    said_as Says (sym (take_next names c.net.at name c.net_name-name.ensures)) (sym c.worse-kind.ensures) refl
    (said_net Says c.net.invariant name c.in_ok-front_net.ensures)

pub returns : goal.returns
returns c =
    let names = net_names c.args.design.now.spef in
    subst (λ (some : List (List ℕ)). AreSaid (IsFrontSaid c.args.design.now c.args.cap) some c.net.kind c.net.to.items)
    (take_all c.net.at names (omega (arith, c.net-test.false, c.net_count-at-end.ensures))) c.net.invariant
