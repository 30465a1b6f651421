use Rattle.cand_pool.proofs.CallLaws.{placed_first, step_on}
use Rattle.tests_engine.proofs.branches.pairs.Goals as goal

pub places-init : goal.places-init
places-init g c = placed_first _ c.first-place.result _ (c.first-place.ensures _ c.requires)

pub places-smaller : goal.places-smaller
places-smaller g c = (step_on _ c.places.place c.next-place.result c.in-Some.at c.in-Some.is c.places.invariant c.next-place.ensures).0

pub places-preserved : goal.places-preserved
places-preserved g c = (step_on _ c.places.place c.next-place.result c.in-Some.at c.in-Some.is c.places.invariant c.next-place.ensures).1
