use Rattle.std.proofs.Common.{length, ◌+◌, ◌-◌}
use Rattle.cand_pairs.proofs.MeetLemmas.{Merging}
use Rattle.cand_pairs.proofs.lists.meet_all.Given as goal

abbrev pub invariant-merge : goal.invariant-merge
invariant-merge l = Merging l.xs l.ys l.i l.j l.merged.items

abbrev pub decreases-merge : goal.decreases-merge
decreases-merge l = (length l.xs - l.i) + (length l.ys - l.j)
