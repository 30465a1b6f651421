use Rattle.std.proofs.Common.{◌≡◌, ℤ, Option, rules, subst, to_z-of_z}
use Rattle.std.specs.Int.{w128}
use Rattle.vg_slack.specs.declared.answer.Best.{Best}
use Rattle.vg_repair.specs.Repairs.{IsRepairAnswer}
use Rattle.mode_repair.specs.Outcomes.{outcome_for}
use Rattle.mode_repair.proofs.RepairLemmas.{none_one, repaired_one}
use Rattle.mode_repair.proofs.nets.Repairing.with_posed.Goals as goal

pub returns-in-Some : goal.returns-in-Some
returns-in-Some c =
    let net = c.args.net in
    let best = c.in-Some.best in
    let wants = c.args.goal in
    let passed = to_z-of_z {w = w128} {z = wants.target} (search rules) in
    let slack = to_z-of_z {w = w128} {z = best.slack} (search rules) in
    let same : c.outcome-outcome.result ≡ outcome_for wants.target best.slack
    = subst (λ (x : ℤ). c.outcome-outcome.result ≡ outcome_for wants.target x) slack c.outcome-outcome.ensures in
    let found = subst (λ (x : ℤ). IsRepairAnswer net.problem wants.cap x c.in_ok-best.field-0) passed c.in_ok-best.ensures.repair in
    let repair = subst (λ (found : Option Best). IsRepairAnswer net.problem wants.cap wants.target found) c.in-Some.is found in
    repaired_one c.args.design.now wants c.args.name.now c.args.self c.in_ok-judging-in-Some.judging c.with.result net best _ _ c.requires.posed repair
    same c.kind-kind.ensures c.in_ok-judging-in-Some.ensures c.with.ensures

pub returns : goal.returns
returns c =
    let net = c.args.net in
    let wants = c.args.goal in
    let passed = to_z-of_z {w = w128} {z = wants.target} (search rules) in
    let found = subst (λ (x : ℤ). IsRepairAnswer net.problem wants.cap x c.in_ok-best.field-0) passed c.in_ok-best.ensures.repair in
    let none = subst (λ (found : Option Best). IsRepairAnswer net.problem wants.cap wants.target found) c.in-None.is found in
    none_one c.args.design.now wants c.args.name.now c.args.self c.in_ok-judging-in-None.judging c.with-in-None.result net c.requires.posed none
    c.in_ok-judging-in-None.ensures c.with-in-None.ensures
