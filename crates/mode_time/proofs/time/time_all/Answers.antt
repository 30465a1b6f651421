use Rattle.std.proofs.Common.{ℕ, List, ◌==◌, ◌∙◌, ap, not, sym}
use Rattle.std.specs.List.{starts_with}
use Rattle.vg_design.specs.Designs.{net_names}
use Rattle.mode_time.specs.Answers.{IsTimeSaid}
use Rattle.vg_answer.proofs.VerdictLemmas.{kept_next, passed_next, said_as, said_net}
use Rattle.mode_time.proofs.time.time_all.Goals.{then-not-starts_with+in_ok-time_net, else-not-starts_with}
use Rattle.mode_time.proofs.time.time_all.Goals as goal

pub net-preserved : goal.net-preserved
net-preserved c =
    let names = net_names c.args.design.now.spef in
    let prefix = c.args.prefix.now in
    let name = c.net_name-name.result.now in
    let is_kept = (λ (n : List ℕ). not (starts_with ◌==◌ n prefix)) in
    let Says = IsTimeSaid c.args.design.now prefix in
    elim c.if-not-starts_with.branch [
      | then-not-starts_with+in_ok-time_net w ↦
          said_as Says (sym (kept_next is_kept names c.net.at name c.net_name-name.ensures (ap not (sym c.starts_with.ensures.value ∙ w.if-not-starts_with.true))))
          (sym (w.kind-is ∙ w.worse-kind.ensures)) (sym (ap (λ to. to.items) w.to-is))
          (said_net Says c.net.invariant name w.in_ok-time_net.ensures)
      | else-not-starts_with w ↦
          said_as Says (sym (passed_next is_kept names c.net.at name c.net_name-name.ensures (ap not (sym c.starts_with.ensures.value ∙ w.if-not-starts_with.false))))
          (sym w.kind-is) (sym (ap (λ to. to.items) w.to-is)) c.net.invariant
    ]
