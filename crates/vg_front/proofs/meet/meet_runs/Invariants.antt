use Rattle.std.proofs.Common.{◌+◌, ◌-◌, length}
use Rattle.vg_front.specs.Desks.{all_in}
use Rattle.vg_front.specs.Offers.{proposed_by}
use Rattle.vg_front.specs.Seen.{AreReached}
use Rattle.vg_front.proofs.MeetLemmas.{AreMeeting}
use Rattle.vg_front.proofs.meet.meet_runs.Given as goal

abbrev pub invariant-pairs : goal.invariant-pairs
invariant-pairs l = record {
  meeting : AreMeeting l.xs l.ys l.i l.j (all_in l.fn.desk) (all_in l.desk);
  reached : AreReached l.desk.stairs (proposed_by l.desk.made.items);
}

abbrev pub decreases-pairs : goal.decreases-pairs
decreases-pairs l = (length l.xs - l.i) + (length l.ys - l.j)
