use Rattle.vg_convex.specs.Answers.{AreServed}
use Rattle.vg_convex.proofs.search.put_others.Given as goal

abbrev pub ghost-put_free : goal.ghost-put_free
ghost-put_free g a = g.xs

abbrev pub invariant-drivers : goal.invariant-drivers
invariant-drivers g l = AreServed l.allowed l.reps g.xs l.drivers l.fn.from l.at l.fn.found l.found
