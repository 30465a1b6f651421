use Rattle.std.proofs.Common.{arith}
use Rattle.tests_engine.proofs.ReadyLaws.{second}
use Rattle.tests_engine.proofs.branches.agrees.Goals as goal

pub pairs-requires : goal.pairs-requires
pairs-requires g c = (second _ _ c.rising-a.result c.rising-b.result c.rising-a.ensures.ready c.rising-b.ensures.others).ready.live

pub met-requires-clause-a : goal.met-requires-clause-a
met-requires-clause-a g c = (second _ _ c.rising-a.result c.rising-b.result c.rising-a.ensures.ready c.rising-b.ensures.others).ready

pub met-requires-clause-differ : goal.met-requires-clause-differ
met-requires-clause-differ g c = (second _ _ c.rising-a.result c.rising-b.result c.rising-a.ensures.ready c.rising-b.ensures.others).differ

pub returns : goal.returns
returns g c =
    let two = second _ _ c.rising-a.result c.rising-b.result c.rising-a.ensures.ready c.rising-b.ensures.others in
    let same = two.same in
    let a = c.rising-a.ensures.size in
    let b = c.rising-b.ensures.size in
    let first = c.rising-a.ensures.spare in
    let other = c.rising-b.ensures.spare in
    let all = c.in_ok-made.ensures in
    omega (arith, same, a, b, first, other, all)
