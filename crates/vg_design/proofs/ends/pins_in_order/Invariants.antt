use Rattle.vg_design.proofs.OrderedLemmas.{AreFirst}
use Rattle.vg_design.proofs.ends.pins_in_order.Given as goal

abbrev pub invariant-pin : goal.invariant-pin
invariant-pin l = AreFirst l.design l.net l.at l.pins.items
