use Rattle.std.proofs.Common.{◌<◌, ◌∙◌, ap, arith, length, map, sym}
use Rattle.std.proofs.lemmas.List.{get_or-map, length-map}
use Rattle.vg_report.proofs.ReportLemmas.{report_more}
use Rattle.mode_total.specs.Picked.{choice_in}
use Rattle.mode_total.specs.Steps.{kept_choice}
use Rattle.mode_total.proofs.print.print_choices.Goals as goal

pub point-preserved : goal.point-preserved
point-preserved c =
    let fronts = c.args.fronts.now in
    let points = c.args.points.now in
    let at = c.point.at in
    let point = c.index-points-at.result in
    let choice = choice_in fronts point in
    let low : at < length points = omega (arith, c.point-test.true) in
    c.in_ok-print_choice.ensures
    ∙ report_more (kept_choice c.args.design.now c.args.nets.now) c.args.to.now.items c.point.to.items (map (choice_in fronts) points) at choice
    (omega (arith, c.point-test.true, length-map points (choice_in fronts)))
    (ap (choice_in fronts) c.index-points-at.is ∙ sym (get_or-map (choice_in fronts) points at point choice low)) c.point.invariant
