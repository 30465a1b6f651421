use Rattle.std.proofs.Common.{◌≡◌, ◌∙◌, ◌-◌, arith, sym}
use Rattle.vg_num.specs.Printed.{with_point}
use Rattle.vg_num.proofs.PrintingLemmas.{nothing_behind, point_step}
use Rattle.vg_num.proofs.print.write_fraction.Goals as goal

pub digits-init : goal.digits-init
digits-init c =
    let e : c.args.places - 0 ≡ c.args.places = omega arith in
    rw e (sym (nothing_behind (with_point c.args.n c.args.places) c.args.buffer.now c.told-buffer))

pub digits-preserved : goal.digits-preserved
digits-preserved c = c.digits.invariant ∙ point_step c.digits.rest c.args.places c.digits.i c.digits.buffer (omega arith) (omega arith) (omega arith)
