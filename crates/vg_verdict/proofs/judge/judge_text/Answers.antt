use Rattle.std.proofs.Common.{refl, inl, inr}
use Rattle.vg_verdict.specs.Judged.IsJudged.{told_fault, told_verdict}
use Rattle.vg_verdict.specs.Lines.{fault_line, verdict_line}
use Rattle.vg_verdict.proofs.judge.judge_text.Goals as goal

pub returns-in_ok-valid-in-Ok-clause-judged : goal.returns-in_ok-valid-in-Ok-clause-judged
returns-in_ok-valid-in-Ok-clause-judged c =
    let told = c.in_ok-valid-in-Ok.ensures.told in
    record {
      line = verdict_line c.args.names.now c.in-Ok.cert.slack told.verdict;
      judged =
          told_verdict c.in-Ok.cert (record { faultless = c.in-Ok.ensures.faultless; denotes = c.in-Ok.ensures.denotes }) told.verdict told.is
          told.shown told.valid_is refl;
      appended = told.text;
    }

pub returns-in_ok-print_fault-in_default-clause-judged : goal.returns-in_ok-print_fault-in_default-clause-judged
returns-in_ok-print_fault-in_default-clause-judged c = record {
  line = fault_line c.args.names.now c.in-Err.fault;
  judged = elim c.in-Err.ensures.fault [
    | inl memory ↦ absurd (c.in_default.not-Memory memory)
    | inr first ↦ told_fault c.in-Err.fault first refl refl
  ];
  appended = c.in_ok-print_fault-in_default.ensures.printed;
}
