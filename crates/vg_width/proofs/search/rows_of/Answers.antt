use Rattle.std.proofs.Common.{◌^◌, ◌+◌, ◌<◌, sym, ap, subst, arith, ◌∙◌}
use Rattle.wire_widths.specs.WideSolutions.{row_of}
use Rattle.vg_slack.specs.Choices.{choice_at}
use Rattle.vg_width.proofs.SearchLemmas.{one_row, few_row}
use Rattle.vg_width.proofs.search.rows_of.Goals as goal

pub row_of-requires : goal.row_of-requires
row_of-requires c =
    subst (λ n. row_of (choice_at c.args.sites.now (n + c.wires.u)) < 2 ^ 8) (sym c.len-n.ensures)
    (few_row c.args.p.now c.args.sites.now c.wires.u c.requires.few (omega (arith, c.wires-test.true, c.len-n.ensures)))

pub wires-preserved : goal.wires-preserved
wires-preserved c =
    one_row c.args.p.now c.args.sites.now c.wires.rows.items c.push.new.self.items c.wires.u c.row_of.result c.wires.invariant c.in_ok-push.ensures.items
    (c.row_of.ensures ∙ ap (λ n. row_of (choice_at c.args.sites.now (n + c.wires.u))) c.len-n.ensures)
