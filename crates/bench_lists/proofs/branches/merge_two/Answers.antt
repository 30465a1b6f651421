use Rattle.std.proofs.Common.{ap, arith, length}
use Rattle.bench_lists.proofs.BranchLaws.{stays_beside, can_meet, bare_both, made_held}
use Rattle.bench_lists.proofs.branches.merge_two.Goals as goal

pub merge-requires-clause-live : goal.merge-requires-clause-live
merge-requires-clause-live g c =
    let two = stays_beside c.rising-a.new.pool c.rising-b.new.pool c.rising-a.result c.rising-b.result c.rising-a.ensures.ready c.rising-b.ensures.ready.made.0 c.rising-b.ensures.others in (two.ready.made.0, c.rising-b.ensures.ready.made.0)

pub merge-requires-clause-differ : goal.merge-requires-clause-differ
merge-requires-clause-differ g c =
    (stays_beside c.rising-a.new.pool c.rising-b.new.pool c.rising-a.result c.rising-b.result c.rising-a.ensures.ready c.rising-b.ensures.ready.made.0 c.rising-b.ensures.others).differ

pub merge-requires-clause-meet : goal.merge-requires-clause-meet
merge-requires-clause-meet g c =
    let two = stays_beside c.rising-a.new.pool c.rising-b.new.pool c.rising-a.result c.rising-b.result c.rising-a.ensures.ready c.rising-b.ensures.ready.made.0 c.rising-b.ensures.others in
    can_meet c.args.arena.now _ c.rising-a.result c.rising-b.result two.ready c.rising-b.ensures.ready

pub returns-clause-held : goal.returns-clause-held
returns-clause-held g c =
    let two = stays_beside c.rising-a.new.pool c.rising-b.new.pool c.rising-a.result c.rising-b.result c.rising-a.ensures.ready c.rising-b.ensures.ready.made.0 c.rising-b.ensures.others in
    made_held _ _ _ _ (bare_both _ c.rising-a.result c.rising-b.result two.ready c.rising-b.ensures.ready) (c.in_ok-list.ensures.uses _ _ two.ready.made.0 c.rising-b.ensures.ready.made.0)

pub returns-clause-spare : goal.returns-clause-spare
returns-clause-spare g c =
    let two = stays_beside c.rising-a.new.pool c.rising-b.new.pool c.rising-a.result c.rising-b.result c.rising-a.ensures.ready c.rising-b.ensures.ready.made.0 c.rising-b.ensures.others in
    let a = ap length two.same in
    let one = c.rising-a.ensures.spare in
    let other = c.rising-b.ensures.spare in
    let one_size = c.rising-a.ensures.size in
    let other_size = c.rising-b.ensures.size in
    let all = c.in_ok-list.ensures.spare _ _ two.ready.made.0 c.rising-b.ensures.ready.made.0 in
    omega (arith, a, one, other, one_size, other_size, all)
