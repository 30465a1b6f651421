use Rattle.std.specs.BinaryHeap.{heap_items}
use Rattle.std.specs.List.{sum_by}
use Rattle.vg_front.specs.Desks.{all_in}
use Rattle.vg_front.specs.Offers.{proposed_by}
use Rattle.vg_front.specs.Seen.{AreReached}
use Rattle.vg_front.specs.Turns.{left_in}
use Rattle.vg_front.proofs.TurnLemmas.{AreMetBut}
use Rattle.vg_front.proofs.meet.meet_by_turns.Given as goal

abbrev pub invariant-turns : goal.invariant-turns
invariant-turns l = record {
  met : AreMetBut l.cap l.xs l.ys l.firsts l.seconds (heap_items l.turns) (all_in l.desk);
  reached : AreReached l.desk.stairs (proposed_by l.desk.made.items);
}

abbrev pub decreases-turns : goal.decreases-turns
decreases-turns l = sum_by (left_in l.seconds) (heap_items l.turns)
