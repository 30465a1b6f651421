use Rattle.std.proofs.Common.{◌-◌, length}
use Rattle.vg_scan.proofs.NextLemmas.{StaysTo}
use Rattle.vg_scan.proofs.comments.next_comment.Given as goal

abbrev pub invariant-piece : goal.invariant-piece
invariant-piece l = StaysTo l.kind l.text l.at l.from

abbrev pub decreases-piece : goal.decreases-piece
decreases-piece l = length l.text - l.from
