use Rattle.std.proofs.Common.{length, ap, arith}
use Rattle.cand_pool.proofs.PublicLaws.{held_named}
use Rattle.bench_lists.proofs.BranchLaws.{stays_beside, held_bare, beside_held, beside_long, other_apart}
use Rattle.bench_lists.proofs.branches.end_two.Goals as goal

pub end_list-requires-clause-live : goal.end_list-requires-clause-live
end_list-requires-clause-live c = (stays_beside c.rising-a.new.pool c.rising-b.new.pool c.rising-a.result c.rising-b.result c.rising-a.ensures.ready c.rising-b.ensures.ready.made.0 c.rising-b.ensures.others).ready.made.0

pub end_list-requires-clause-held : goal.end_list-requires-clause-held
end_list-requires-clause-held c = held_bare _ _ (stays_beside c.rising-a.new.pool c.rising-b.new.pool c.rising-a.result c.rising-b.result c.rising-a.ensures.ready c.rising-b.ensures.ready.made.0 c.rising-b.ensures.others).ready.bare

pub end_list-requires-2-clause-live : goal.end_list-requires-2-clause-live
end_list-requires-2-clause-live c =
    let two = stays_beside c.rising-a.new.pool c.rising-b.new.pool c.rising-a.result c.rising-b.result c.rising-a.ensures.ready c.rising-b.ensures.ready.made.0 c.rising-b.ensures.others in
    held_named _ _ _ _ (c.end_list.ensures.lists c.rising-b.result _ (other_apart _ _ two.differ) c.rising-b.ensures.ready.made.0)

pub end_list-requires-2-clause-held : goal.end_list-requires-2-clause-held
end_list-requires-2-clause-held c =
    let two = stays_beside c.rising-a.new.pool c.rising-b.new.pool c.rising-a.result c.rising-b.result c.rising-a.ensures.ready c.rising-b.ensures.ready.made.0 c.rising-b.ensures.others in
    beside_held _ _ _ c.rising-b.result c.rising-b.ensures.ready (c.end_list.ensures.lists c.rising-b.result _ (other_apart _ _ two.differ) c.rising-b.ensures.ready.made.0)

pub returns : goal.returns
returns c =
    let two = stays_beside c.rising-a.new.pool c.rising-b.new.pool c.rising-a.result c.rising-b.result c.rising-a.ensures.ready c.rising-b.ensures.ready.made.0 c.rising-b.ensures.others in
    let a = ap length two.same in
    let b = beside_long c.rising-b.new.pool c.end_list.new.pool c.rising-b.result (c.end_list.ensures.lists c.rising-b.result _ (other_apart _ _ two.differ) c.rising-b.ensures.ready.made.0) in
    let one = c.rising-a.ensures.spare in
    let other = c.rising-b.ensures.spare in
    let one_size = c.rising-a.ensures.size in
    let other_size = c.rising-b.ensures.size in
    let first = c.end_list.ensures.spare in
    let last = c.end_list-2.ensures.spare in
    omega (arith, a, b, one, other, one_size, other_size, first, last)
