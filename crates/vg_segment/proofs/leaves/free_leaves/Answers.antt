use Rattle.std.proofs.Common.{ap, subst, List, Bool, length, arith}
use Rattle.vg_segment.specs.Leaves.{AreLeastUnmarked}
use Rattle.vg_segment.proofs.MarkLemmas.{least_free, few_leaves}
use Rattle.vg_segment.proofs.leaves.free_leaves.Goals as goal

pub returns-clause-free : goal.returns-clause-free
returns-clause-free c =
    let picked = subst (λ (marks : List Bool). AreLeastUnmarked marks c.args.count c.in_ok-leaves.leaves.items) c.as_slice.ensures.value c.in_ok-leaves.ensures in
    least_free c.args.net.now _ c.args.count c.in_ok-marks.marks.items c.in_ok-leaves.leaves.items c.in_ok-marks.ensures picked

pub returns-clause-few : goal.returns-clause-few
returns-clause-few c =
    few_leaves c.args.count c.as_slice.result.now c.in_ok-leaves.leaves.items (omega (arith, c.in_ok-marks.ensures.size, ap length c.as_slice.ensures.value)) c.in_ok-leaves.ensures
