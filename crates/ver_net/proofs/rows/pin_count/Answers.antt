use Rattle.std.proofs.Common.{arith, ap, length}
use Rattle.std.proofs.lemmas.List.Sums.{sum_by_more}
use Rattle.std.proofs.lemmas.Option.{get_or_from_slice_get, slice_get_within}
use Rattle.ver_module.specs.Netlists.{Instance}
use Rattle.ver_net.proofs.rows.pin_count.Goals as goal

pub instance-preserved : goal.instance-preserved
instance-preserved c =
    let xs = c.args.netlist.now.instances in
    let at = c.instance.at in
    let x = c.instance-in-instance.result in (
      omega (
        arith,
        c.instance.invariant.0,
        c.len-count.ensures.count,
        sum_by_more (λ (i : Instance). length i.pins) xs at x (slice_get_within xs at x c.instance-in-instance.ensures),
        ap (λ (i : Instance). length i.pins) (get_or_from_slice_get xs at x x c.instance-in-instance.ensures),
      ),
      omega (arith, c.instance.invariant.1, c.len-count.ensures.few),
    )
