use Rattle.std.proofs.Common.{◌≡◌, ap, arith}
use Rattle.cand_pool.specs.Candidates.{Candidates}
use Rattle.cand_pool.specs.Pools.{bag_of}
use Rattle.cand_pool.proofs.PublicLaws.{held_items, held_named}
use Rattle.cand_uses.specs.Uses.{uses_by}
use Rattle.vg_convex.proofs.Adds.{given_back}
use Rattle.vg_convex.proofs.cells.list_of.Goals as goal

pub give_up-requires-clause-live : goal.give_up-requires-clause-live
give_up-requires-clause-live c =
    let (zs, added, _) = c.put_all.ensures in
    held_named c.discard-bag.new.self c.discard-bag.result.ends.first c.discard-bag.result.ends.last zs (c.discard-bag.ensures.held zs added.held)

pub give_up-requires-clause-held : goal.give_up-requires-clause-held
give_up-requires-clause-held c = λ u some.
    let (zs, added, _) = c.put_all.ensures in
    let e : bag_of c.discard-bag.new.self c.discard-bag.result ≡ zs
    = held_items c.discard-bag.new.self c.discard-bag.result.ends.first c.discard-bag.result.ends.last zs (c.discard-bag.ensures.held zs added.held) in
    omega (arith, ap (λ (l : Candidates). uses_by l u) e, added.uses u some)

pub returns-in-Err-clause-restored : goal.returns-in-Err-clause-restored
returns-in-Err-clause-restored c =
    let (zs, added, _) = c.put_all.ensures in
    given_back c.args.arena.now c.put_all.new.arena c.give_up.new.arena zs added.uses added.solutions (c.give_up.ensures.uses zs (c.discard-bag.ensures.held zs added.held))
