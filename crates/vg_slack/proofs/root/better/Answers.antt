use Rattle.std.proofs.Common.{rules, ◌≤ℤ◌, ◌∙◌, sym, subst, arith, Option, to_z, of_z}
use Rattle.std.proofs.lemmas.Bool.{false≢true}
use Rattle.std.proofs.lemmas.Int.{ints, to_z-of_z}
use Rattle.std.specs.Int.{w128}
use mir.Val.{SFits}
use Rattle.elmore.specs.Legal.{IsWithin}
use Rattle.vg_slack.specs.declared.root.Choice.{Choice}
use Rattle.vg_slack.specs.Roots.{IsChoice}
use Rattle.vg_slack.proofs.RootLemmas.{kept, passed, taken, worth_told}
use Rattle.vg_slack.proofs.root.better.Goals as goal

pub returns-then-not-may_charge : goal.returns-then-not-may_charge
returns-then-not-may_charge c = λ xs x told is.
    passed c.args.p.now xs x c.args.best
    (λ drives. false≢true (c.if-not-may_charge.ensures.1 (subst (IsWithin c.args.p.now.driver.limit) (sym told.1) drives))) is

pub returns-then-slack-best : goal.returns-then-slack-best
returns-then-slack-best c = λ xs x told is.
    let q_fits : SFits w128 c.args.told.0 = search rules in
    let worth = worth_told c.args.p.now x (to_z w128 (of_z w128 c.args.told.0)) c.args.told.1 c.slack_from-slack.result c.slack_from-slack.ensures
    (to_z-of_z w128 c.args.told.0 q_fits ∙ told.0) told.1 in
    let less : c.slack_from-slack.result ≤ℤ c.in-Some.best.slack = search rules in
    kept c.args.p.now xs x c.in-Some.best.slack c.in-Some.best.sol.0
    (subst (λ (o : Option Choice). IsChoice c.args.p.now xs o) c.in-Some.is is) (λ _. omega (arith, ints, worth, less))

pub returns-else-slack-best : goal.returns-else-slack-best
returns-else-slack-best c = λ xs x told is.
    let q_fits : SFits w128 c.args.told.0 = search rules in
    let worth = worth_told c.args.p.now x (to_z w128 (of_z w128 c.args.told.0)) c.args.told.1 c.slack_from-slack.result c.slack_from-slack.ensures
    (to_z-of_z w128 c.args.told.0 q_fits ∙ told.0) told.1 in
    let fits : SFits w128 c.slack_from-slack.result = search rules in
    let less : c.in-Some.best.slack ≤ℤ c.slack_from-slack.result = search rules in
    let most = (subst (λ (o : Option Choice). IsChoice c.args.p.now xs o) c.in-Some.is is).most in
    rw (to_z-of_z w128 c.slack_from-slack.result fits)
    (taken c.args.p.now xs x c.slack_from-slack.result c.args.told.2
    (subst (IsWithin c.args.p.now.driver.limit) told.1 (c.if-not-may_charge.ensures.0 (search rules))) worth told.2
    (λ y found drives. omega (arith, ints, most y found drives, less)))

pub returns-in_default : goal.returns-in_default
returns-in_default c = λ xs x told is.
    let q_fits : SFits w128 c.args.told.0 = search rules in
    let worth = worth_told c.args.p.now x (to_z w128 (of_z w128 c.args.told.0)) c.args.told.1 c.slack_from-slack.result c.slack_from-slack.ensures
    (to_z-of_z w128 c.args.told.0 q_fits ∙ told.0) told.1 in
    let fits : SFits w128 c.slack_from-slack.result = search rules in
    let none = subst (λ (o : Option Choice). IsChoice c.args.p.now xs o) c.in_default.is is in
    rw (to_z-of_z w128 c.slack_from-slack.result fits)
    (taken c.args.p.now xs x c.slack_from-slack.result c.args.told.2
    (subst (IsWithin c.args.p.now.driver.limit) told.1 (c.if-not-may_charge.ensures.0 (search rules))) worth told.2
    (λ y found drives. absurd (none y found drives)))
