use Rattle.std.proofs.Common.{arith}
use Rattle.cand_pool.proofs.PublicLaws.{held_named}
use Rattle.bench_lists.proofs.BranchLaws.{beside_held, beside_long}
use Rattle.bench_lists.proofs.cells.end_added.Goals as goal

pub end_list-requires-clause-live : goal.end_list-requires-clause-live
end_list-requires-clause-live c = c.requires.live

pub end_list-requires-clause-held : goal.end_list-requires-clause-held
end_list-requires-clause-held c = c.requires.held

pub end_list-requires-2-clause-live : goal.end_list-requires-2-clause-live
end_list-requires-2-clause-live c = held_named _ _ _ _ (c.end_list.ensures.lists c.args.added.from _ c.requires.differ c.requires.ready.made.0)

pub end_list-requires-2-clause-held : goal.end_list-requires-2-clause-held
end_list-requires-2-clause-held c =
    beside_held _ c.args.pool.now c.end_list.new.pool c.args.added.from c.requires.ready (c.end_list.ensures.lists c.args.added.from _ c.requires.differ c.requires.ready.made.0)

pub returns : goal.returns
returns c =
    let b = beside_long c.args.pool.now c.end_list.new.pool c.args.added.from (c.end_list.ensures.lists c.args.added.from _ c.requires.differ c.requires.ready.made.0) in
    let first = c.end_list.ensures.spare in
    let last = c.end_list-2.ensures.spare in
    omega (arith, b, first, last)
