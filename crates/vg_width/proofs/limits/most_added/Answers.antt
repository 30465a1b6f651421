use Rattle.std.proofs.Common.{arith}
use Rattle.vg_width.proofs.FitLemmas.{most_more}
use Rattle.vg_width.proofs.limits.most_added.Goals as goal

pub widths-preserved : goal.widths-preserved
widths-preserved c =
    omega (arith, most_more c.args.widths.now c.widths.width-index c.args.r (record { num = 0; den = 0; add = 0 }) (omega arith), c.added.ensures, c.max-most.ensures)
