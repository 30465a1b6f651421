use Rattle.std.proofs.Common.{◌≡◌, ◌++◌, sym, arith, inr}
use Rattle.cand_pool.specs.Pools.{items_of}
use Rattle.cand_pool.specs.Sequences.{lowest, union}
use Rattle.sol_arena.specs.Arenas.{slots_of}
use Rattle.cand_pool.proofs.PublicLaws.{held_items, held_named, stays}
use Rattle.cand_pool.proofs.PoolMoves.{keeps_then}
use Rattle.cand_lists.proofs.KeptLemmas.{kept_length, union_length}
use Rattle.cand_lists.proofs.RisingLemmas.{rising_time}
use Rattle.cand_lists.proofs.MoveLemmas.{given_up, stays_meant, dominated_held, both_uses, held_as, first_in, differ_in}
use Rattle.cand_lists.proofs.moves.absorb.Goals as goal

pub absorb-bag-requires-clause-rises_list : goal.absorb-bag-requires-clause-rises_list
absorb-bag-requires-clause-rises_list g c = rising_time _ c.requires.rising_list

pub absorb-bag-requires-clause-rises_other : goal.absorb-bag-requires-clause-rises_other
absorb-bag-requires-clause-rises_other g c = rising_time _ c.requires.rising_other

pub give_up-requires-clause-live : goal.give_up-requires-clause-live
give_up-requires-clause-live g c = held_named _ _ _ _ (c.absorb-bag.ensures.bag _ _ c.requires.live c.requires.other)

pub give_up-requires-clause-held : goal.give_up-requires-clause-held
give_up-requires-clause-held g c =
    let xs = items_of c.args.pool.now c.args.list.now in
    let ys = items_of c.args.pool.now c.args.other in
    let bag = held_items _ _ _ _ (c.absorb-bag.ensures.bag _ _ c.requires.live c.requires.other) in
    held_as _ _ _ bag (dominated_held (slots_of c.args.arena.now) (union xs ys) (xs ++ ys) (both_uses xs ys) c.requires.held)

pub returns-clause-list : goal.returns-clause-list
returns-clause-list g c = λ xs ys h k. stays _ _ _ _ _ _ _ c.give_up.ensures.others (differ_in _ _ c.absorb-bag.ensures.differ) (c.absorb-bag.ensures.list xs ys h k)

pub returns-clause-uses : goal.returns-clause-uses
returns-clause-uses g c = λ xs ys h k. given_up _ _ (union xs ys) (xs ++ ys) (both_uses xs ys) (c.give_up.ensures.uses _ (c.absorb-bag.ensures.bag xs ys h k))

pub returns-clause-same : goal.returns-clause-same
returns-clause-same g c = λ xs ys h k.
    let same : items_of c.args.pool.now c.args.list.now ++ items_of c.args.pool.now c.args.other ≡ xs ++ ys = λ i. held_items _ _ _ xs h i ++ held_items _ _ _ ys k i in
    stays_meant c.args.arena.now c.give_up.new.arena (union xs ys) (xs ++ ys) (both_uses xs ys) (held_as _ _ _ (sym same) c.requires.held) (c.give_up.ensures.uses _ (c.absorb-bag.ensures.bag xs ys h k))

pub returns-clause-others : goal.returns-clause-others
returns-clause-others g c = keeps_then _ _ _ _ _ _ _ _ c.absorb-bag.ensures.others c.give_up.ensures.others (λ k m. inr m) (λ k m. inr (first_in _ _ _ m))

pub returns-clause-spare : goal.returns-clause-spare
returns-clause-spare g c = λ xs ys h k.
    omega (arith, c.give_up.ensures.spare _ (c.absorb-bag.ensures.bag xs ys h k), c.absorb-bag.ensures.spare, kept_length lowest (union xs ys), union_length xs ys)
