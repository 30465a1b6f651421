use Rattle.std.proofs.Common.{◌+◌, ◌≢◌, sym, arith, subst, List, ℕ, length}
use Rattle.vg_segment.specs.Leaves.{AreUnmarkedBelow}
use Rattle.vg_segment.proofs.MarkLemmas.{below_marked, below_pushed}
use Rattle.vg_segment.proofs.leaves.least_unmarked.Goals as goal
use Rattle.vg_segment.proofs.leaves.least_unmarked.Goals.{then-not-marks-k+in_ok-push, else-not-marks-k}

pub number-preserved : goal.number-preserved
number-preserved c = elim c.if-not-marks-k.branch [
  | then-not-marks-k+in_ok-push w ↦ rw w.leaves-is (
      let room : length c.number.leaves.items ≢ c.args.count = λ e. c.if-len-count.false (omega (arith, c.len.ensures, c.number.leaves.ok.0, e)) in
      subst (λ (leaves : List ℕ). AreUnmarkedBelow c.args.marks.now c.args.count (c.number.k + 1) leaves) (sym w.in_ok-push.ensures.items)
      (below_pushed c.args.marks.now c.args.count c.number.k c.number.leaves.items c.number-test.true w.if-not-marks-k.true room c.number.invariant))
  | else-not-marks-k w ↦ rw w.leaves-is (below_marked c.args.marks.now c.args.count c.number.k c.number.leaves.items c.number-test.true w.if-not-marks-k.false c.number.invariant)
]
