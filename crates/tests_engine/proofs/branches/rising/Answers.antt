use Rattle.std.proofs.Common.{◌∙◌, arith, rules, refl, to_z-of_z}
use Rattle.std.specs.Int.{w128}
use Rattle.cand_pool.proofs.PublicLaws.{held_named}
use Rattle.tests_engine.proofs.ReadyLaws.{rising_start, rising_more, rising_ready, rising_long}
use Rattle.tests_engine.proofs.branches.rising.Goals as goal

pub places-init : goal.places-init
places-init c = rising_start _ _ c.none-list.result c.none-list.ensures.same c.none-list.ensures.list

pub push-requires-clause-live : goal.push-requires-clause-live
push-requires-clause-live c = held_named _ _ _ _ c.places.invariant.held

pub places-preserved : goal.places-preserved
places-preserved c =
    let e = to_z-of_z {w = w128} {z = c.drawn_pair-pair.result.q} (search rules) in
    rising_more _ _ _ c.places.list c.push.new.list c.places.at _ c.places.invariant (omega arith)
    (record { from_q = rw e c.drawn_pair-pair.ensures.from_q; to_q = rw e c.drawn_pair-pair.ensures.to_q; from_c = c.drawn_pair-pair.ensures.from_c; to_c = c.drawn_pair-pair.ensures.to_c; empty = refl })
    c.push.ensures.list c.push.ensures.others c.push.ensures.spare

pub returns-clause-ready : goal.returns-clause-ready
returns-clause-ready c = rising_ready _ _ _ _ c.places.invariant

pub returns-clause-size : goal.returns-clause-size
returns-clause-size c = rising_long _ _ c.places.list c.places.at c.places.invariant ∙ omega arith
