use Rattle.std.proofs.Common.{arith}
use Rattle.tests_engine.proofs.RowLaws.{wired_parted}
use Rattle.tests_engine.proofs.pools.wired.Goals as goal

pub has_rows-as_wanted-requires : goal.has_rows-as_wanted-requires
has_rows-as_wanted-requires g c = (wired_parted c.from.result 0 _ _ c.make-list.result c.wire-bag.new.list c.wire-bag.result _ c.make-list.ensures.made c.wire-bag.ensures.list c.wire-bag.ensures.bag).left

pub give_up-split-requires-clause-left : goal.give_up-split-requires-clause-left
give_up-split-requires-clause-left g c = (wired_parted c.from.result 0 _ _ c.make-list.result c.wire-bag.new.list c.wire-bag.result _ c.make-list.ensures.made c.wire-bag.ensures.list c.wire-bag.ensures.bag).left

pub give_up-split-requires-clause-gone : goal.give_up-split-requires-clause-gone
give_up-split-requires-clause-gone g c = (wired_parted c.from.result 0 _ _ c.make-list.result c.wire-bag.new.list c.wire-bag.result _ c.make-list.ensures.made c.wire-bag.ensures.list c.wire-bag.ensures.bag).gone

pub returns : goal.returns
returns g c =
    let all = (wired_parted c.from.result 0 _ _ c.make-list.result c.wire-bag.new.list c.wire-bag.result _ c.make-list.ensures.made c.wire-bag.ensures.list c.wire-bag.ensures.bag).all in
    let a = c.give_up-split.ensures in let b = c.wire-bag.ensures.spare in let d = c.make-list.ensures.spare in omega (arith, all, a, b, d)
