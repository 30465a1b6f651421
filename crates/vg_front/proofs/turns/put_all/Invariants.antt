use Rattle.std.proofs.Common.{take}
use Rattle.std.specs.BinaryHeap.{heap_items}
use Rattle.vg_front.specs.Turns.{AreTurns}
use Rattle.vg_front.proofs.turns.put_all.Given as goal

abbrev pub invariant-firsts : goal.invariant-firsts
invariant-firsts l = AreTurns l.cap (take l.first-index l.firsts) l.seconds (heap_items l.turns)
