use Rattle.std.proofs.Common.{◌≡◌, subst, arith}
use Rattle.vg_convex.specs.Places.{AreFrontOf}
use Rattle.vg_convex.proofs.search.find_each_free.Goals as goal
use Rattle.vg_convex.proofs.search.find_each_free.Goals.{then-points-test+else-at-drivers, else-points-test}

pub put_others-requires : goal.put_others-requires
put_others-requires g c =
    let (_, (drivers, (hull, (some, (row, (rising, by_resistance)))))) = c.requires in
    let one : c.points.left ≡ 1 = elim c.points-test.branch [
      | then-points-test+else-at-drivers w ↦ absurd (omega (arith, w.if-at-drivers.false, c.if-at-drivers-2.true))
      | else-points-test w ↦ omega (arith, w.points-test.false, c.points.invariant.some)
    ] in (
      drivers,
      (
        c.points.invariant.inside,
        (
          subst (λ m. AreFrontOf g.xs c.args.stack.now m c.args.drivers.now c.points.at) one c.points.invariant.front,
          (some, (c.points.invariant.served.row, rising)),
        ),
      ),
    )
