use Rattle.std.proofs.Common.{List, ◌++◌, ap, ◌∙◌, arith, take_all}
use Rattle.std.proofs.lemmas.Result.{err_from_is_err_and}
use Rattle.std.specs.List.{flat_map}
use Rattle.vg_design.specs.Parts.{cells_of}
use Rattle.vg_front.specs.declared.root.Point.{Point}
use Rattle.vg_report.specs.Reports.{point_report}
use Rattle.vg_report.proofs.BegunLemmas.{begun_after}
use Rattle.vg_report.proofs.ReportLemmas.{report_more}
use Rattle.vg_report.proofs.placement.print_points.Goals as goal

pub point-preserved : goal.point-preserved
point-preserved c =
    let points = c.args.points.now in
    let point = c.index-points-at.result in
    c.in_ok-report_point.ensures.printed
    ∙ report_more (point_report (cells_of c.args.repeaters.now) c.args.names.now) c.args.to.now.items c.point.to.items points c.point.at point
    (omega (arith, c.point-test.true)) (c.index-points-at.is) c.point.invariant

pub returns-clause-printed : goal.returns-clause-printed
returns-clause-printed c =
    let report = point_report (cells_of c.args.repeaters.now) c.args.names.now in
    c.point.invariant
    ∙ ap (λ (points : List Point). c.args.to.now.items ++ flat_map report points)
    (take_all c.point.at c.args.points.now (omega (arith, c.point-test.false)))

pub returns-in_err-report_point-clause-begun : goal.returns-in_err-report_point-clause-begun
returns-in_err-report_point-clause-begun c =
    let p = err_from_is_err_and c.from_residual.result c.from_residual.ensures.1 in
    rw p.1 (begun_after c.args.to.now.items _ c.point.to.items c.report_point.new.to.items c.point.invariant c.in_err-report_point.ensures.begun)
