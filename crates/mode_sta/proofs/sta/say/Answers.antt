use Rattle.std.proofs.Common.{List, ℕ, ◌++◌, ap, ◌∙◌}
use Rattle.mode_sta.specs.Answers.{IsStaSaid}
use Rattle.mode_sta.specs.Lines.{sta_report}
use Rattle.mode_sta.proofs.StaLemmas.{fault_said}
use Rattle.mode_sta.proofs.sta.say.Goals as goal

pub returns-in_ok-report_sta-in-Ok : goal.returns-in_ok-report_sta-in-Ok
returns-in_ok-report_sta-in-Ok c =
    let found = c.in-Ok.found in
    let said = c.answer_text.ensures in
    let printed = c.in_ok-report_sta-in-Ok.ensures ∙ ap (λ (text : List ℕ). text ++ sta_report found) c.new-text.ensures.items in
    record { says = IsStaSaid.told_slacks found c.in-Ok.ensures.timed said.kind_is (said.text_is ∙ printed); no_files = said.no_files }

pub returns-in-Err : goal.returns-in-Err
returns-in-Err c = fault_said c.args.design.now c.in-Err.fault c.say_fault.result c.in-Err.ensures.fault c.say_fault.ensures
