use Rattle.std.proofs.Common.{◌≡◌, ◌∙◌, ap, sym}
use Rattle.mode_check.specs.Answers.{kind_judged}
use Rattle.mode_check.proofs.CheckLemmas.{check_judged}
use Rattle.vg_verdict.proofs.NameLemmas.{names_are, names_stand}
use Rattle.mode_check.proofs.check.check_posed.Goals.{then-valid, else-valid}
use Rattle.mode_check.proofs.check.check_posed.Goals as goal

pub judge_text-requires-clause-names : goal.judge_text-requires-clause-names
judge_text-requires-clause-names c =
    names_stand c.args.design.now c.args.name.now c.args.net.now c.in_ok-names.names c.requires.names c.requires.posed
    (names_are c.args.design.now c.args.name.now c.args.net.now c.in_ok-names.names c.repeaters.result.now c.repeaters.ensures c.in_ok-names.ensures)

pub returns : goal.returns
returns c =
    let d = c.args.design.now in
    let valid = c.in_ok-valid.valid in
    let kind : c.if-valid.kind ≡ kind_judged valid =
    elim c.if-valid.branch [
      | then-valid w ↦ w.kind-is ∙ ap kind_judged (sym w.if-valid.true)
      | else-valid w ↦ w.kind-is ∙ ap kind_judged (sym w.if-valid.false)
    ] in
    check_judged d c.args.name.now c.args.cert.now c.args.net.now c.in_ok-names.names c.if-valid.kind valid c.new-text.result.items c.judge_text.new.to.items c.answer_text.result
    c.requires.posed
    (names_are d c.args.name.now c.args.net.now c.in_ok-names.names c.repeaters.result.now c.repeaters.ensures c.in_ok-names.ensures)
    c.new-text.ensures.items kind c.in_ok-valid.ensures.judged c.answer_text.ensures
