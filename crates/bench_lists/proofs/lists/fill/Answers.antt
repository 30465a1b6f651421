use Rattle.std.proofs.Common.{[], ◌∙◌, arith, rules, to_z-of_z}
use Rattle.std.specs.Int.{w128}
use Rattle.cand_pool.proofs.PublicLaws.{held_named}
use Rattle.bench_lists.proofs.BranchLaws.{small_at}
use Rattle.bench_lists.proofs.TurnLaws.{filling_start, filling_more, rising_more, filled_made, filled_rises, filled_long}
use Rattle.bench_lists.proofs.lists.fill.Goals as goal

pub places-init : goal.places-init
places-init c = ([], filling_start _ _ c.none-list.result c.none-list.ensures.same c.none-list.ensures.list, record { rises = tt; before = tt })

pub push-requires-clause-live : goal.push-requires-clause-live
push-requires-clause-live c = held_named _ _ _ _ c.places.invariant.1.held

pub places-preserved : goal.places-preserved
places-preserved c =
    let e = to_z-of_z {w = w128} {z = c.point-point.result.q} (search rules) in
    let (xs, filling, rising) = c.places.invariant in (
      _,
      filling_more _ _ _ c.places.list c.push.new.list c.places.at xs _ filling
          (small_at c.places.at _ (omega arith) (record { from_q = rw e c.point-point.ensures.from_q; to_q = rw e c.point-point.ensures.to_q; from_c = c.point-point.ensures.from_c; to_c = c.point-point.ensures.to_c }))
          c.push.ensures.list c.push.ensures.others c.push.ensures.spare,
      rising_more c.places.at xs _ rising (rw e c.point-point.ensures.from_q) (rw e c.point-point.ensures.to_q),
    )

pub returns-clause-made : goal.returns-clause-made
returns-clause-made c = filled_made _ _ _ _ _ c.places.invariant.1

pub returns-clause-rises : goal.returns-clause-rises
returns-clause-rises c = filled_rises _ _ _ c.places.at _ c.places.invariant.1 c.places.invariant.2

pub returns-clause-size : goal.returns-clause-size
returns-clause-size c = filled_long _ _ c.places.list c.places.at _ c.places.invariant.1 ∙ omega arith

pub push-requires-clause-room : goal.push-requires-clause-room
push-requires-clause-room c = let free = c.places.invariant.1.free in omega (arith, free)

pub returns-clause-others : goal.returns-clause-others
returns-clause-others c = c.places.invariant.1.others

pub returns-clause-spare : goal.returns-clause-spare
returns-clause-spare c = let free = c.places.invariant.1.free in omega (arith, free)
