use Rattle.std.proofs.Common.{[], ◌∙◌, arith, rules, refl, to_z-of_z}
use Rattle.std.specs.Int.{w128}
use Rattle.cand_pool.proofs.PublicLaws.{held_named}
use Rattle.bench_lists.proofs.TurnLaws.{filled_long}
use Rattle.bench_lists.proofs.BranchLaws.{pair_at, top_between, top_more, rising_start, rising_more, rising_ready}
use Rattle.bench_lists.proofs.cells.bent.Goals as goal

pub places-init : goal.places-init
places-init c = (([], rising_start _ _ c.none-list.result _ c.none-list.ensures.same c.none-list.ensures.list), record { early = omega arith; light = omega arith; less = omega arith })

pub push-requires-clause-live : goal.push-requires-clause-live
push-requires-clause-live c = held_named _ _ _ _ c.places.invariant.0.1.filling.held

pub push-requires-clause-room : goal.push-requires-clause-room
push-requires-clause-room c = let free = c.places.invariant.0.1.filling.free in omega (arith, free)

pub above-top-requires-clause-gain : goal.above-top-requires-clause-gain
above-top-requires-clause-gain c = c.places.invariant.1.less

pub above-top-requires-clause-early : goal.above-top-requires-clause-early
above-top-requires-clause-early c = let a = c.places.invariant.1.early in let few = c.requires.few in omega (arith, a, few)

pub above-top-requires-clause-light : goal.above-top-requires-clause-light
above-top-requires-clause-light c = let a = c.places.invariant.1.light in let few = c.requires.few in omega (arith, a, few)

pub places-preserved : goal.places-preserved
places-preserved c =
    let e = to_z-of_z {w = w128} {z = c.from.result} (search rules) in
    let less = c.saturating_sub-gain.ensures in
    let few = c.requires.few in (
      (
        _,
        rising_more _ _ _ c.places.list c.push.new.list c.places.counter (pair_at c.places.top) (pair_at c.above-top.result) c.places.invariant.0.0 _ c.places.invariant.0.1
            (top_between c.places.counter c.places.top c.above-top.result c.places.gain _ (omega (arith, few)) c.places.invariant.1 (e ∙ c.from.ensures) refl refl c.above-top.ensures.from_q c.above-top.ensures.from_c)
            c.push.ensures.list c.push.ensures.others c.push.ensures.spare,
      ),
      top_more c.places.counter c.places.top c.above-top.result c.places.gain _ c.places.invariant.1 c.above-top.ensures.to_q c.above-top.ensures.to_c (omega (arith, less)),
    )

pub returns-clause-ready : goal.returns-clause-ready
returns-clause-ready c = rising_ready _ _ _ _ _ _ c.places.invariant.0.1

pub returns-clause-size : goal.returns-clause-size
returns-clause-size c = filled_long _ _ c.places.list c.places.counter _ c.places.invariant.0.1.filling ∙ omega arith

pub returns-clause-others : goal.returns-clause-others
returns-clause-others c = c.places.invariant.0.1.filling.others

pub returns-clause-spare : goal.returns-clause-spare
returns-clause-spare c = let free = c.places.invariant.0.1.filling.free in omega (arith, free)
