use Rattle.std.proofs.Common.{get_or, arith, pos}
use Rattle.std.proofs.lemmas.List.{get_or_default}
use Rattle.vg_convex.specs.declared.shelf.Driver.{Driver}
use Rattle.vg_convex.specs.declared.work.Point.{Point}
use Rattle.vg_convex.proofs.Finds.{served_more}
use Rattle.vg_convex.proofs.Fronts.{front_greatest}
use Rattle.vg_convex.proofs.search.put_others.Goals as goal

abbrev driver0 : Driver
driver0 = record { r = 0; k = 0; rep = 0 }

abbrev point0 : Point
point0 = record { q = pos 0; c = 0; tag = 0 }

pub put_free-requires : goal.put_free-requires
put_free-requires g c =
    let (drivers, (from, (front, (some, (row, rising))))) = c.requires in
    let f = front c.drivers.at driver0 (omega (arith, c.drivers.auto.at)) c.drivers-test.true in (
      drivers c.drivers.at driver0 c.drivers-test.true,
      (
        f.hull.rise,
        (
          f.hull.modest,
          (
            (
              f.hull.numbers 0,
              f.hull.points 0 point0 some,
              front_greatest g.xs c.args.stack.now 1 (get_or c.args.drivers.now c.drivers.at driver0).r f (λ two. absurd (omega (arith, two))),
            ),
            (c.drivers.invariant.row, rising),
          ),
        ),
      ),
    )

pub drivers-preserved : goal.drivers-preserved
drivers-preserved g c =
    let (drivers, (from, (front, (some, (row, rising))))) = c.requires in
    let (answer, is, e) = c.put_free.ensures in
    served_more c.args.allowed.now c.args.reps.now g.xs c.args.drivers.now c.args.from c.drivers.at (get_or c.args.drivers.now c.drivers.at driver0) answer
    c.args.found.now c.drivers.found c.put_free.new.found c.drivers-test.true
    (get_or_default c.args.drivers.now c.drivers.at driver0 (get_or c.args.drivers.now c.drivers.at driver0) c.drivers-test.true)
    (drivers c.drivers.at driver0 c.drivers-test.true).named is e c.drivers.invariant
