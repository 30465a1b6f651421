use Rattle.std.proofs.Common.{false, arith, None}
use Rattle.elmore.proofs.LimitLemmas.{greatest_more}
use Rattle.vg_width.proofs.limits.most_input.Goals as goal

pub inputs-preserved : goal.inputs-preserved
inputs-preserved c =
    omega (arith, greatest_more c.args.reps.now c.inputs.rep-index (record { inverts = false; cin = 0; k = 0; r = 0; cost = 0; limit = None }) (omega arith), c.max-most.ensures)
