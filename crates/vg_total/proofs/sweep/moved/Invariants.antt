use Rattle.vg_total.specs.Picks.{front_at, at_of}
use Rattle.vg_total.proofs.PickLemmas.{AreMovedFirst}
use Rattle.vg_total.proofs.sweep.moved.Given as goal

abbrev pub invariant-nets : goal.invariant-nets
invariant-nets l = AreMovedFirst (front_at l.fronts) l.slack (at_of l.picks) l.k l.after.items
