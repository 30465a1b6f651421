use Rattle.vg_front.proofs.CellLemmas.{AreUsableBelow}
use Rattle.vg_front.proofs.cells.usable.Given as goal

abbrev pub invariant-reps : goal.invariant-reps
invariant-reps l = AreUsableBelow l.p l.node l.odd l.below l.number l.numbers.items
