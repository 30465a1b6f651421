use Rattle.std.proofs.Common.{◌-◌, length}
use Rattle.vg_patch.proofs.TakeLemmas.{IsTakenTo}
use Rattle.vg_patch.proofs.take.take_comments.Given as goal

abbrev pub invariant-comments : goal.invariant-comments
invariant-comments l = IsTakenTo l.kind l.initial.text.items l.text.items l.kept l.at

abbrev pub decreases-comments : goal.decreases-comments
decreases-comments l = length l.text.items - l.at
