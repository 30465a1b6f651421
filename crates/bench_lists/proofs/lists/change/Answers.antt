use Rattle.std.proofs.Common.{length, sym, ap, subst, arith}
use Rattle.cand_pool.specs.Laws.{RisesInTime}
use Rattle.bench_lists.proofs.OperationLaws.{second, applied_sized}
use Rattle.bench_lists.proofs.lists.change.Goals as goal

pub apply-bag-requires-clause-made : goal.apply-bag-requires-clause-made
apply-bag-requires-clause-made g c =
    let two = second _ _ c.fill-list.result c.fill-other.result c.fill-list.ensures.made c.fill-other.ensures.made.0.few c.fill-other.ensures.others in (two.made, c.fill-other.ensures.made)

pub apply-bag-requires-clause-rises : goal.apply-bag-requires-clause-rises
apply-bag-requires-clause-rises g c =
    let two = second _ _ c.fill-list.result c.fill-other.result c.fill-list.ensures.made c.fill-other.ensures.made.0.few c.fill-other.ensures.others in
    (subst RisesInTime (sym two.items) c.fill-list.ensures.rises, c.fill-other.ensures.rises)

pub apply-bag-requires-clause-differ : goal.apply-bag-requires-clause-differ
apply-bag-requires-clause-differ g c =
    let two = second _ _ c.fill-list.result c.fill-other.result c.fill-list.ensures.made c.fill-other.ensures.made.0.few c.fill-other.ensures.others in two.differ

pub returns-clause-applied : goal.returns-clause-applied
returns-clause-applied g c =
    let two = second _ _ c.fill-list.result c.fill-other.result c.fill-list.ensures.made c.fill-other.ensures.made.0.few c.fill-other.ensures.others in
    (c.fill-other.new.pool, applied_sized _ _ _ _ c.apply-bag.new.list c.apply-bag.result (let same = ap length two.items in let one = c.fill-list.ensures.size in let other = c.fill-other.ensures.size in omega (arith, same, one, other)) c.apply-bag.ensures)
