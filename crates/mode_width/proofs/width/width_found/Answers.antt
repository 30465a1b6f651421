use Rattle.std.proofs.Common.{ℕ, List, ◌++◌, ◌∙◌, Option, ap, arith, length, subst, sym}
use Rattle.elmore.specs.Placed.{IsPlacementOf}
use Rattle.lib_linear.specs.declared.repeater.Repeater.{Repeater}
use Rattle.vg_design.specs.Parts.{cells_of}
use Rattle.vg_report.specs.Reports.{none_line}
use Rattle.vg_width.specs.WideBests.{IsWideAnswer}
use Rattle.vg_width.specs.declared.wide.WideBest.{WideBest}
use Rattle.mode_width.specs.Lines.{width_report}
use Rattle.mode_width.proofs.WidthLemmas.{cells_named, nodes_named, says_best, says_none}
use Rattle.mode_width.proofs.width.width_found.Goals as goal

pub returns-in_default : goal.returns-in_default
returns-in_default c =
    let d = c.args.design.now in
    let rows = c.args.widths.now.rows in
    let name = c.args.name.now in
    let net = c.args.net.now in
    let none = subst (λ (found : Option WideBest). IsWideAnswer net.problem rows found) c.in_default.is c.in_ok-best.ensures in
    says_none d rows name net c.requires.posed c.print_none.new.to.items c.answer_text.result c.requires.fits none
    (c.in_ok-print_none.ensures.printed ∙ ap (λ (before : List ℕ). before ++ none_line name) c.new-text.ensures.items) c.answer_text.ensures

pub print_wide-requires-clause-placement : goal.print_wide-requires-clause-placement
print_wide-requires-clause-placement c =
    (subst (λ (found : Option WideBest). IsWideAnswer c.args.net.now.problem c.args.widths.now.rows found) c.in-Some.is c.in_ok-best.ensures).good.placement

pub print_wide-requires-clause-named : goal.print_wide-requires-clause-named
print_wide-requires-clause-named c =
    let d = c.args.design.now in
    let net = c.args.net.now in
    let cells = c.in-Some.best.placement.cells in
    let found = subst (λ (found : Option WideBest). IsWideAnswer net.problem c.args.widths.now.rows found) c.in-Some.is c.in_ok-best.ensures in
    subst (λ (reps : List Repeater). IsPlacementOf (length net.names) (length reps) cells) (sym c.repeaters.ensures)
    (cells_named d c.args.name.now net c.requires.posed cells found.good.placement)

pub print_wide-requires-clause-chosen : goal.print_wide-requires-clause-chosen
print_wide-requires-clause-chosen c =
    let net = c.args.net.now in
    let found = subst (λ (found : Option WideBest). IsWideAnswer net.problem c.args.widths.now.rows found) c.in-Some.is c.in_ok-best.ensures in
    let one_each = found.good.lawful.one_each in
    let all = nodes_named c.args.design.now c.args.name.now net c.requires.posed in
    omega (arith, one_each, all)

pub returns : goal.returns
returns c =
    let d = c.args.design.now in
    let rows = c.args.widths.now.rows in
    let name = c.args.name.now in
    let net = c.args.net.now in
    let best = c.in-Some.best in
    let found = subst (λ (found : Option WideBest). IsWideAnswer net.problem rows found) c.in-Some.is c.in_ok-best.ensures in
    says_best d rows name net c.requires.posed best c.print_wide.new.to.items c.answer_text-2.result c.requires.fits found
    (c.in_ok-print_wide.ensures ∙ (λ i. c.new-text.ensures.items i ++ width_report name (cells_of (c.repeaters.ensures i)) net best)) c.answer_text-2.ensures
