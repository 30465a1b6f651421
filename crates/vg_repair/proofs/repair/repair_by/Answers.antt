use Rattle.std.proofs.Common.{rules, ℤ, sym, ap, subst, of_z}
use Rattle.std.proofs.lemmas.Int.{to_z-of_z}
use Rattle.std.specs.Int.{w128}
use mir.Val.{SFits}
use Rattle.vg_slack.specs.Bests.{NoneIsBare}
use Rattle.vg_repair.specs.Picks.{IsBareOf, IsPick}
use Rattle.vg_repair.specs.Repairs.{IsRepair, IsRepairAnswer}
use Rattle.vg_repair.proofs.RepairLemmas.{bare_slack}
use Rattle.vg_repair.proofs.SearchLemmas.{searched_none, searched_point, searched_bare}
use Rattle.vg_repair.proofs.repair.repair_by.Goals as goal
use Rattle.vg_repair.proofs.repair.repair_by.Goals.{in_default-via-in-Some+else-bare-point, in_default-via-in_default}

pub returns-in_err-point : goal.returns-in_err-point
returns-in_err-point c = λ p cap searched bare needs.
    subst (IsRepairAnswer p cap c.args.target) (sym c.from_residual.ensures) (searched_none p cap c.args.target c.args.points.items searched c.in_err-point.ensures)

pub returns-in-Some : goal.returns-in-Some
returns-in-Some c = λ p cap searched bare needs.
    let point = c.in_ok-point.point in
    let fits : SFits w128 c.args.target = search rules in
    let pick = subst (λ (target : ℤ). IsPick target c.args.points.items point) (to_z-of_z w128 c.args.target fits) c.in_ok-point.ensures in
    searched_bare p cap c.args.target c.args.points.items point pick needs searched c.in-Some.best.placement.cells c.in-Some.best.slack
    (subst (IsBareOf p) c.in-Some.is bare) (search rules)

pub returns-in_default : goal.returns-in_default
returns-in_default c = λ p cap searched bare needs.
    let point = c.in_ok-point.point in
    let fits : SFits w128 c.args.target = search rules in
    let slack_fits : SFits w128 point.slack = search rules in
    let pick = subst (λ (target : ℤ). IsPick target c.args.points.items point) (to_z-of_z w128 c.args.target fits) c.in_ok-point.ensures in
    let never : NoneIsBare p point.slack =
    elim c.in_default.branch [
      | in_default-via-in-Some+else-bare-point w ↦ λ cells other.
          w.if-bare-point.false
          (ap (of_z w128) (bare_slack p w.in-Some.best.placement.cells cells w.in-Some.best.slack point.slack (subst (IsBareOf p) w.in-Some.is bare) other))
      | in_default-via-in_default w ↦ subst (IsBareOf p) w.in_default.is bare point.slack
    ] in
    subst (IsRepair p cap c.args.target point.placement.cells) (sym (to_z-of_z w128 point.slack slack_fits))
    (searched_point p cap c.args.target c.args.points.items point pick needs searched never)
