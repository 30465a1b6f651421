use Rattle.std.proofs.lemmas.List.{length-map}
use Rattle.std.proofs.Common.{map, sym, arith, inr}
use Rattle.cand_pool.specs.Candidates.{wired_to}
use Rattle.cand_pool.specs.Pools.{items_of}
use Rattle.cand_pool.specs.Sequences.{lowest}
use Rattle.sol_arena.specs.Arenas.{slots_of}
use Rattle.cand_pool.proofs.PublicLaws.{held_items, held_named, stays}
use Rattle.cand_pool.proofs.PoolMoves.{keeps_then}
use Rattle.cand_lists.proofs.KeptLemmas.{kept_length, wired_uses}
use Rattle.cand_lists.proofs.MoveLemmas.{given_up, stays_meant, dominated_held, held_as, first_in, differ_in}
use Rattle.cand_lists.proofs.moves.wire.Goals as goal

pub give_up-requires-clause-live : goal.give_up-requires-clause-live
give_up-requires-clause-live g c = held_named _ _ _ _ (c.wire-bag.ensures.bag _ c.requires.live)

pub give_up-requires-clause-held : goal.give_up-requires-clause-held
give_up-requires-clause-held g c =
    let xs = items_of c.args.pool.now c.args.list.now in
    let bag = held_items _ _ _ _ (c.wire-bag.ensures.bag _ c.requires.live) in
    held_as _ _ _ bag (dominated_held (slots_of c.args.arena.now) (map (wired_to c.args.r c.args.c) xs) xs (wired_uses c.args.r c.args.c xs) c.requires.held)

pub returns-clause-list : goal.returns-clause-list
returns-clause-list g c = λ xs h. stays _ _ _ _ _ _ _ c.give_up.ensures.others (differ_in _ _ c.wire-bag.ensures.differ) (c.wire-bag.ensures.list xs h)

pub returns-clause-uses : goal.returns-clause-uses
returns-clause-uses g c = λ xs h. given_up _ _ (map (wired_to c.args.r c.args.c) xs) xs (wired_uses c.args.r c.args.c xs) (c.give_up.ensures.uses _ (c.wire-bag.ensures.bag xs h))

pub returns-clause-same : goal.returns-clause-same
returns-clause-same g c = λ xs h.
    stays_meant c.args.arena.now c.give_up.new.arena (map (wired_to c.args.r c.args.c) xs) xs (wired_uses c.args.r c.args.c xs) (held_as _ _ _ (sym (held_items _ _ _ xs h)) c.requires.held) (c.give_up.ensures.uses _ (c.wire-bag.ensures.bag xs h))

pub returns-clause-others : goal.returns-clause-others
returns-clause-others g c = keeps_then _ _ _ _ _ _ _ _ c.wire-bag.ensures.others c.give_up.ensures.others (λ k m. inr m) (λ k m. inr (first_in _ _ _ m))

pub returns-clause-spare : goal.returns-clause-spare
returns-clause-spare g c = λ xs h.
    omega (arith, c.give_up.ensures.spare _ (c.wire-bag.ensures.bag xs h), c.wire-bag.ensures.spare, kept_length lowest (map (wired_to c.args.r c.args.c) xs), length-map xs (wired_to c.args.r c.args.c))
