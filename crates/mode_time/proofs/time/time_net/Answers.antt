use Rattle.std.proofs.Common.{ℕ, List, refl, subst}
use Rattle.vg_retime.specs.Retimings.{Retimes, IsFirstRefusal}
use Rattle.vg_report.specs.Reports.{refusal_line, slack_line}
use Rattle.mode_time.specs.Answers.{IsTimeSaid}
use Rattle.mode_time.proofs.time.time_net.Goals as goal

pub returns-in-Ok : goal.returns-in-Ok
returns-in-Ok c =
    let d = c.args.design.now in
    let prefix = c.args.prefix.now in
    let timed = c.in-Ok.timed in
    record {
      text = slack_line c.args.name.now timed;
      says = IsTimeSaid.told_slack timed (subst (λ (name : List ℕ). Retimes 17 d prefix name timed) c.in_ok-net.ensures c.in-Ok.ensures.timed) refl;
      is = c.in_ok-report_timed-in-Ok.ensures.printed;
    }

pub returns-in-Err-Net : goal.returns-in-Err-Net
returns-in-Err-Net c =
    let d = c.args.design.now in
    let prefix = c.args.prefix.now in
    let refusal = c.in-Err-Net.refusal in
    let refused = rw c.in-Err-Net.field-0-is at c.in-Err-Net.ensures.refused in
    record {
      text = refusal_line c.args.name.now refusal;
      says = IsTimeSaid.told_stop refusal (subst (λ (name : List ℕ). IsFirstRefusal d prefix name refusal) c.in_ok-net.ensures refused) refl;
      is = c.in_ok-print_refusal-in-Err-Net.ensures.printed;
    }
