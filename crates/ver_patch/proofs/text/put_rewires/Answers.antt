use Rattle.std.proofs.Common.{get_or, subst, sym}
use Rattle.ver_patch.specs.Pins.{IsOnOneNet}
use Rattle.ver_patch.proofs.OrderLemmas.{none}
use Rattle.ver_patch.proofs.RiseLemmas.{next_span}
use Rattle.ver_patch.proofs.text.put_rewires.Goals as goal

pub span_of-requires : goal.span_of-requires
span_of-requires c =
    subst (IsOnOneNet c.args.netlist.now) (sym c.pin.ensures)
    (c.requires.linked (get_or c.args.order.now c.order.number-index 0) none (c.requires.order c.order.number-index 0 c.order-test.true))

pub replace-requires : goal.replace-requires
replace-requires c =
    let next =
    next_span c.args.netlist.now c.args.rewires.now c.args.order.now c.args.edits.now c.order.edits c.order.number-index c.args.netlist.now.end_at c.pin.result
    c.span_of.result c.order-test.true c.requires.rise c.order.invariant c.pin.ensures c.span_of.ensures in
    record { behind = next.0; part = next.1 }
