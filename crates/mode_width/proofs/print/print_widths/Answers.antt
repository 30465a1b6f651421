use Rattle.std.proofs.Common.{ap, ◌∙◌}
use Rattle.mode_width.proofs.PrintLemmas.{plain_more, wide_more}
use Rattle.mode_width.proofs.print.print_widths.Goals.{then-row-ne0+in_ok-print_width, else-row-ne0}
use Rattle.mode_width.proofs.print.print_widths.Goals as goal

pub wire-preserved : goal.wire-preserved
wire-preserved c =
    let names = c.args.names.now in
    let chosen = c.args.chosen.now in
    let before = c.args.to.now.items in
    let text = c.wire.to.items in
    elim c.if-row-ne0.branch [
      | then-row-ne0+in_ok-print_width w ↦
          ap (λ to. to.items) w.to-is ∙ w.in_ok-print_width.ensures
          ∙ wide_more names chosen before text c.wire.at w.owner.result.now w.leaf.result.now w.if-row-ne0.true w.owner.ensures w.leaf.ensures c.wire.invariant
      | else-row-ne0 w ↦ ap (λ to. to.items) w.to-is ∙ plain_more names chosen before text c.wire.at w.if-row-ne0.false c.wire.invariant
    ]
