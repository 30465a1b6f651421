use Rattle.cand_pool.proofs.PublicLaws.{held_named}
use Rattle.bench_lists.proofs.OperationLaws.{gathered, gathered_long}
use Rattle.bench_lists.proofs.lists.give_up.Goals as goal

pub append-requires-clause-live : goal.append-requires-clause-live
append-requires-clause-live c =
    let (s, applied) = c.requires in held_named _ _ _ _ (c.discard-all.ensures.held applied.xs applied.left)

pub append-requires-clause-other : goal.append-requires-clause-other
append-requires-clause-other c =
    let (s, applied) = c.requires in let both = gathered _ _ _ _ c.args.list c.discard-all.result c.args.bag applied c.discard-all.ensures.same c.discard-all.ensures.held in held_named _ _ _ _ both.two

pub empty-requires-clause-live : goal.empty-requires-clause-live
empty-requires-clause-live c =
    let (s, applied) = c.requires in let both = gathered _ _ _ _ c.args.list c.discard-all.result c.args.bag applied c.discard-all.ensures.same c.discard-all.ensures.held in
    held_named _ _ _ _ (c.append.ensures.bag both.xs both.ys both.one both.two)

pub empty-requires-clause-size : goal.empty-requires-clause-size
empty-requires-clause-size c =
    let (s, applied) = c.requires in let both = gathered _ _ _ _ c.args.list c.discard-all.result c.args.bag applied c.discard-all.ensures.same c.discard-all.ensures.held in
    gathered_long _ _ c.append.new.bag both.xs both.ys (c.append.ensures.bag both.xs both.ys both.one both.two) both.long
