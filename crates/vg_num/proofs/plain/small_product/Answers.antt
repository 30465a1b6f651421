use Rattle.std.proofs.Common.{◌*◌, ap, arith, ◌∙◌}
use Rattle.vg_num.proofs.PlainLemmas.{times_ten}
use Rattle.vg_num.proofs.plain.small_product.Goals as goal

pub ten-preserved : goal.ten-preserved
ten-preserved c = (ap (λ n. n * 10) c.ten.invariant.0 ∙ times_ten c.args.value c.ten._turn, omega arith)
