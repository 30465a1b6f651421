use Rattle.std.proofs.Common.{List, ◌≡◌, ◌==◌, ◌++◌, ◌∙◌, [], ap, arith, length, subst, sym, vec_len}
use Rattle.std.specs.List.{All}
use Rattle.std.proofs.lemmas.Bool.{eqb-true}
use Rattle.std.proofs.lemmas.List.{nil_from_length}
use Rattle.elmore.specs.Placed.{IsPlacementOf}
use Rattle.lib_linear.specs.declared.repeater.Repeater.{Repeater}
use Rattle.vg_design.specs.Parts.{cells_of}
use Rattle.vg_front.specs.declared.root.Point.{Point}
use Rattle.vg_report.specs.Reports.{front_report}
use Rattle.mode_frontier.proofs.FrontLemmas.{points_named, says_none, says_points, some_points}
use Rattle.mode_frontier.proofs.front.front_posed.Goals as goal

pub returns-then-is_empty : goal.returns-then-is_empty
returns-then-is_empty c =
    let points = c.in_ok-points.points.items in
    let count : length points ≡ vec_len c.in_ok-points.points = omega (arith, c.in_ok-points.points.ok.0) in
    let none : points ≡ [] = nil_from_length points (count ∙ eqb-true (vec_len c.in_ok-points.points) 0 (sym c.is_empty.ensures ∙ c.if-is_empty.true)) in
    says_none c.args.design.now c.args.cap c.args.name.now c.args.to.now.items c.print_none.new.to.items c.args.net.now points c.requires
    c.in_ok-points.ensures.frontier none c.in_ok-print_none.ensures.printed

pub report_front-requires : goal.report_front-requires
report_front-requires c =
    let net = c.args.net.now in
    let points = c.in_ok-points.points.items in
    let named = points_named c.args.design.now c.args.cap c.args.name.now [] [] net points c.requires c.in_ok-points.ensures.frontier in
    subst (λ (some : List Point). All (λ (x : Point). IsPlacementOf (length net.names) (length c.repeaters.result.now) x.placement.cells) some)
    (sym c.deref.ensures.value)
    (subst (λ (reps : List Repeater). All (λ (x : Point). IsPlacementOf (length net.names) (length reps) x.placement.cells) points)
    (sym c.repeaters.ensures) named)

pub returns : goal.returns
returns c =
    let d = c.args.design.now in
    let net = c.args.net.now in
    let name = c.args.name.now in
    let before = c.args.to.now.items in
    let points = c.in_ok-points.points.items in
    let count : length points ≡ vec_len c.in_ok-points.points = omega (arith, c.in_ok-points.points.ok.0) in
    let some = some_points points (ap (λ n. n == 0) count ∙ sym c.is_empty.ensures ∙ c.if-is_empty.false) in
    let text : c.report_front.new.to.items ≡ before ++ front_report name (cells_of d.library.repeaters) net points =
    c.in_ok-report_front.ensures.printed ∙ (λ i. before ++ front_report name (cells_of (c.repeaters.ensures i)) net (c.deref.ensures.value i)) in
    says_points d c.args.cap name before c.report_front.new.to.items net points c.requires c.in_ok-points.ensures.frontier some text
