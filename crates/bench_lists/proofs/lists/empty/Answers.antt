use Rattle.std.proofs.Common.{ap, arith}
use Rattle.cand_pool.specs.Pools.{spare}
use Rattle.bench_lists.proofs.TurnLaws.{emptying_start, emptying_more, emptying_some, emptying_end}
use Rattle.bench_lists.proofs.lists.empty.Goals as goal

pub tags-init : goal.tags-init
tags-init c = emptying_start _ c.args.bag _ c.args.size c.requires.live c.requires.size

pub take_one-requires : goal.take_one-requires
take_one-requires c = emptying_some _ _ c.tags.bag c.args.size c.tags.counter c.tags-test.true c.tags.invariant

pub tags-preserved : goal.tags-preserved
tags-preserved c =
    emptying_more _ _ _ c.tags.bag c.take_one.new.bag c.args.size c.tags.counter c.tags-test.true c.tags.invariant c.take_one.ensures.taken c.take_one.ensures.spare

pub close-requires : goal.close-requires
close-requires c = emptying_end _ _ c.tags.bag c.args.size c.tags.counter (omega arith) c.tags.invariant

pub returns : goal.returns
returns c = let same = ap spare c.close.ensures in let free = c.tags.invariant.free in omega (arith, same, free)
