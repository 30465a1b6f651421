use Rattle.std.proofs.Common.{arith}
use Rattle.tests_engine.proofs.RowLaws.{second, second_rises, absorbed_parted}
use Rattle.tests_engine.proofs.pools.absorbed.Goals as goal

pub absorb-bag-requires-clause-live : goal.absorb-bag-requires-clause-live
absorb-bag-requires-clause-live g c = (second _ _ c.make-list.result c.make-other.result _ c.make-list.ensures.made c.make-other.ensures.others).0.0

pub absorb-bag-requires-clause-differ : goal.absorb-bag-requires-clause-differ
absorb-bag-requires-clause-differ g c = (second _ _ c.make-list.result c.make-other.result _ c.make-list.ensures.made c.make-other.ensures.others).1

pub absorb-bag-requires-clause-rises_list : goal.absorb-bag-requires-clause-rises_list
absorb-bag-requires-clause-rises_list g c =
    second_rises _ _ c.make-list.result c.make-other.result _ c.make-list.ensures.made c.make-other.ensures.others (c.make-list.ensures.rises c.requires.one)

pub absorb-bag-requires-clause-rises_other : goal.absorb-bag-requires-clause-rises_other
absorb-bag-requires-clause-rises_other g c = c.make-other.ensures.rises c.requires.two

pub has_rows-as_wanted-requires : goal.has_rows-as_wanted-requires
has_rows-as_wanted-requires g c =
    let two = second _ _ c.make-list.result c.make-other.result _ c.make-list.ensures.made c.make-other.ensures.others in
    (absorbed_parted _ _ c.make-list.result c.make-other.result c.absorb-bag.new.list c.absorb-bag.result _ _ two.0 c.make-other.ensures.made c.absorb-bag.ensures.list c.absorb-bag.ensures.bag).left

pub give_up-split-requires-clause-left : goal.give_up-split-requires-clause-left
give_up-split-requires-clause-left g c =
    let two = second _ _ c.make-list.result c.make-other.result _ c.make-list.ensures.made c.make-other.ensures.others in
    (absorbed_parted _ _ c.make-list.result c.make-other.result c.absorb-bag.new.list c.absorb-bag.result _ _ two.0 c.make-other.ensures.made c.absorb-bag.ensures.list c.absorb-bag.ensures.bag).left

pub give_up-split-requires-clause-gone : goal.give_up-split-requires-clause-gone
give_up-split-requires-clause-gone g c =
    let two = second _ _ c.make-list.result c.make-other.result _ c.make-list.ensures.made c.make-other.ensures.others in
    (absorbed_parted _ _ c.make-list.result c.make-other.result c.absorb-bag.new.list c.absorb-bag.result _ _ two.0 c.make-other.ensures.made c.absorb-bag.ensures.list c.absorb-bag.ensures.bag).gone

pub returns : goal.returns
returns g c =
    let two = second _ _ c.make-list.result c.make-other.result _ c.make-list.ensures.made c.make-other.ensures.others in
    let all = (absorbed_parted _ _ c.make-list.result c.make-other.result c.absorb-bag.new.list c.absorb-bag.result _ _ two.0 c.make-other.ensures.made c.absorb-bag.ensures.list c.absorb-bag.ensures.bag).all in
    let a = c.give_up-split.ensures in let b = c.absorb-bag.ensures.spare in let d = c.make-list.ensures.spare in let e = c.make-other.ensures.spare in omega (arith, all, a, b, d, e)
