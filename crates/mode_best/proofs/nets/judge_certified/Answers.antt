use Rattle.std.proofs.Common.{subst}
use Rattle.vg_design.proofs.PartLemmas.{order_within}
use Rattle.vg_scan.specs.declared.name.NetNames.{NetNames}
use Rattle.vg_answer.specs.NewTexts.{joined}
use Rattle.vg_verdict.specs.Judged.{IsCertificateOf}
use Rattle.vg_verdict.proofs.NameLemmas.{names_are, names_stand}
use Rattle.mode_best.proofs.CertLemmas.{found_certified}
use Rattle.mode_best.proofs.nets.judge_certified.Goals as goal

pub net_names-requires : goal.net_names-requires
net_names-requires c =
    let ready = c.args.net.ready in
    order_within c.args.design.now ready.pinned.net ready.pinned.pins ready.tree.nodes ready.order c.requires.posed.ready

pub certified-requires-clause-names : goal.certified-requires-clause-names
certified-requires-clause-names c =
    names_stand c.args.design.now c.args.name.now c.args.net c.in_ok-names.names c.requires.names c.requires.posed
    (names_are c.args.design.now c.args.name.now c.args.net c.in_ok-names.names c.repeaters.result.now c.repeaters.ensures c.in_ok-names.ensures)

pub returns : goal.returns
returns c =
    let d = c.args.design.now in
    let name = c.args.name.now in
    let net = c.args.net in
    let found = c.in_ok-answer.answer.found in
    let named = names_are d name net c.in_ok-names.names c.repeaters.result.now c.repeaters.ensures c.in_ok-names.ensures in
    found_certified d name net c.args.judging c.in_ok-judging.judging found c.in_ok-shown.shown.found c.in_ok-shown.shown.text c.requires.posed
    c.in_ok-answer.ensures.found c.in_ok-shown.ensures.found
    (subst (λ (names : NetNames). IsCertificateOf net.problem names found (joined c.in_ok-shown.shown.text.items)) named c.in_ok-shown.ensures.text)
    c.in_ok-judging.ensures
