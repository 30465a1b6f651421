use Rattle.std.proofs.Common.{◌-◌, length, get_or, arith, pos}
use Rattle.std.proofs.lemmas.List.{get_or_default}
use Rattle.vg_convex.specs.declared.shelf.Driver.{Driver}
use Rattle.vg_convex.specs.declared.work.Point.{Point}
use Rattle.vg_convex.proofs.Finds.{served_more}
use Rattle.vg_convex.proofs.Fronts.{front_less, fronts_less, front_greatest}
use Rattle.vg_convex.proofs.Numbers.{modest_point}
use Rattle.vg_convex.proofs.Places.{worth_less, worth_no_more, points_rise}
use Rattle.vg_convex.proofs.search.put_served.Goals as goal

abbrev driver0 : Driver
driver0 = record { r = 0; k = 0; rep = 0 }

abbrev point0 : Point
point0 = record { q = pos 0; c = 0; tag = 0 }

pub is_less-requires-clause-a : goal.is_less-requires-clause-a
is_less-requires-clause-a g c =
    let (_, (drivers, (from, (front, (left, (row, (rising, by_resistance))))))) = c.requires in
    let f = front c.drivers.at driver0 c.drivers.invariant.more c.drivers-test.true in
    modest_point g.xs (get_or c.args.stack.now (c.args.left - 2) point0) (f.hull.numbers (c.args.left - 2)) f.hull.modest
    (f.hull.points (c.args.left - 2) point0 (omega (arith, left.0, left.1)))

pub is_less-requires-clause-b : goal.is_less-requires-clause-b
is_less-requires-clause-b g c =
    let (_, (drivers, (from, (front, (left, (row, (rising, by_resistance))))))) = c.requires in
    let f = front c.drivers.at driver0 c.drivers.invariant.more c.drivers-test.true in
    modest_point g.xs (get_or c.args.stack.now (c.args.left - 1) point0) (f.hull.numbers (c.args.left - 1)) f.hull.modest
    (f.hull.points (c.args.left - 1) point0 (omega (arith, left.0, left.1)))

pub is_less-requires-clause-a_b : goal.is_less-requires-clause-a_b
is_less-requires-clause-a_b g c =
    let (_, (drivers, (from, (front, (left, (row, (rising, by_resistance))))))) = c.requires in
    let f = front c.drivers.at driver0 c.drivers.invariant.more c.drivers-test.true in
    points_rise g.xs (length g.xs) c.args.stack.now f.hull (c.args.left - 2) (c.args.left - 1) (get_or c.args.stack.now (c.args.left - 2) point0) (get_or c.args.stack.now (c.args.left - 1) point0)
    (omega (arith, left.0)) (omega (arith, left.0, left.1))
    (f.hull.points (c.args.left - 2) point0 (omega (arith, left.0, left.1))) (f.hull.points (c.args.left - 1) point0 (omega (arith, left.0, left.1)))

pub put_free-requires : goal.put_free-requires
put_free-requires g c =
    let (_, (drivers, (from, (front, (left, (row, (rising, by_resistance))))))) = c.requires in
    let f = front c.drivers.at driver0 c.drivers.invariant.more c.drivers-test.true in
    let one = f.hull.points (c.args.left - 2) point0 (omega (arith, left.0, left.1)) in
    let two = f.hull.points (c.args.left - 1) point0 (omega (arith, left.0, left.1)) in (
      drivers c.drivers.at driver0 c.drivers-test.true,
      (
        f.hull.rise,
        (
          f.hull.modest,
          (
            (
              f.hull.numbers (c.args.left - 1),
              two,
              front_greatest g.xs c.args.stack.now c.args.left (get_or c.args.drivers.now c.drivers.at driver0).r f (λ some.
                  worth_less g.xs (get_or c.args.drivers.now c.drivers.at driver0).r (f.hull.numbers (c.args.left - 2)) (f.hull.numbers (c.args.left - 1))
                  (get_or c.args.stack.now (c.args.left - 2) point0) (get_or c.args.stack.now (c.args.left - 1) point0) one two c.if-not-is_less.ensures.order),
            ),
            (c.drivers.invariant.served.row, rising),
          ),
        ),
      ),
    )

pub drivers-preserved : goal.drivers-preserved
drivers-preserved g c =
    let (_, (drivers, (from, (front, (left, (row, (rising, by_resistance))))))) = c.requires in
    let (answer, is, e) = c.put_free.ensures in
    record {
      more = omega (arith, c.drivers.invariant.more);
      inside = omega (arith, c.drivers-test.true);
      served =
          served_more c.args.allowed.now c.args.reps.now g.xs c.args.drivers.now c.args.from c.drivers.at (get_or c.args.drivers.now c.drivers.at driver0) answer
          c.args.found.now c.drivers.found c.put_free.new.found c.drivers-test.true
          (get_or_default c.args.drivers.now c.drivers.at driver0 (get_or c.args.drivers.now c.drivers.at driver0) c.drivers-test.true)
          (drivers c.drivers.at driver0 c.drivers-test.true).named is e c.drivers.invariant.served;
      cost = omega (arith, c.drivers.invariant.cost, c.if-not-is_less.ensures.step);
    }

pub returns-then-not-is_less-clause-front : goal.returns-then-not-is_less-clause-front
returns-then-not-is_less-clause-front g c =
    let (_, (drivers, (from, (front, (left, (row, (rising, by_resistance))))))) = c.requires in
    let f = front c.drivers.at driver0 c.drivers.invariant.more c.drivers-test.true in
    let one = f.hull.points (c.args.left - 2) point0 (omega (arith, left.0, left.1)) in
    let two = f.hull.points (c.args.left - 1) point0 (omega (arith, left.0, left.1)) in
    fronts_less g.xs c.args.stack.now (c.args.left - 1) c.args.drivers.now c.drivers.at (get_or c.args.drivers.now c.drivers.at driver0) by_resistance c.drivers-test.true
    (get_or_default c.args.drivers.now c.drivers.at driver0 (get_or c.args.drivers.now c.drivers.at driver0) c.drivers-test.true)
    (front_less g.xs c.args.stack.now c.args.left (get_or c.args.drivers.now c.drivers.at driver0).r left.0 f
    (worth_no_more g.xs (get_or c.args.drivers.now c.drivers.at driver0).r (f.hull.numbers (c.args.left - 1)) (f.hull.numbers (c.args.left - 2))
    (get_or c.args.stack.now (c.args.left - 1) point0) (get_or c.args.stack.now (c.args.left - 2) point0) two one c.if-not-is_less.ensures.order))
