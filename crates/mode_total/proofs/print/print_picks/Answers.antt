use Rattle.std.proofs.Common.{◌<◌, ◌++◌, ◌∙◌, ap, arith, flat_map, length, List, take_all, zip}
use Rattle.std.proofs.lemmas.Slice.Zip.{length-zip}
use Rattle.vg_front.specs.declared.root.Point.{Point as Pick}
use Rattle.vg_report.proofs.ReportLemmas.{report_more}
use Rattle.mode_total.specs.Picked.{picks_in}
use Rattle.mode_total.specs.Steps.{kept_report}
use Rattle.mode_total.specs.declared.nets.Net.{Net}
use Rattle.mode_total.proofs.PickLemmas.{row_at, row_good, row_long}
use Rattle.mode_total.proofs.print.print_picks.Goals as goal

pub print_pick-requires : goal.print_pick-requires
print_pick-requires c =
    row_good c.args.design.now c.args.nets.now c.args.fronts.now c.args.picks.now c.requires c.net.at c.index-nets-at.result c.picked.result.now
    (omega (arith, c.net-test.true)) c.index-nets-at.is c.picked.ensures

pub net-preserved : goal.net-preserved
net-preserved c =
    let d = c.args.design.now in
    let nets = c.args.nets.now in
    let fronts = c.args.fronts.now in
    let picks = c.args.picks.now in
    let at = c.net.at in
    let net = c.index-nets-at.result in
    let pick = c.picked.result.now in
    let low : at < length nets = omega (arith, c.net-test.true) in
    c.in_ok-print_pick.ensures
    ∙ report_more (kept_report d) c.args.to.now.items c.net.to.items (zip nets (picks_in fronts picks)) at (net, pick)
    (row_long d nets fronts picks c.requires at net pick low c.index-nets-at.is c.picked.ensures)
    (row_at d nets fronts picks c.requires at net pick low c.index-nets-at.is c.picked.ensures) c.net.invariant

pub returns : goal.returns
returns c =
    let rows = zip c.args.nets.now (picks_in c.args.fronts.now c.args.picks.now) in
    let count = length-zip c.args.nets.now (picks_in c.args.fronts.now c.args.picks.now) in
    c.net.invariant
    ∙ ap (λ (some : List (Net × Pick)). c.args.to.now.items ++ flat_map (kept_report c.args.design.now) some)
    (take_all c.net.at rows (omega (arith, c.net-test.false, count)))
