use Rattle.std.proofs.Common.{List, [], ◌++◌, length, sym, ap, subst, arith}
use Rattle.sol_arena.specs.declared.slot.Slot.{Slot}
use Rattle.sol_arena.specs.Arenas.{slots_of}
use Rattle.cand_pool.specs.Candidates.{Candidates}
use Rattle.cand_pool.specs.Pools.{items_of}
use Rattle.cand_pool.proofs.PublicLaws.{held_items, held_named}
use Rattle.cand_uses.specs.Uses.{HoldsFor, IsExchange}
use Rattle.cand_uses.proofs.ExchangeLemmas.{uses_of_both, exchange_among, exchange_of, exchange_then, exchanged_held}
use Rattle.vg_merge.proofs.ListLemmas.{second_stays, list_stays}
use Rattle.vg_merge.proofs.branches.end_branches.Goals as goal

pub end_list-requires-2-clause-live : goal.end_list-requires-2-clause-live
end_list-requires-2-clause-live c =
    held_named _ _ _ _ (second_stays _ _ c.args.at _ _ _ c.requires.live c.end_list.ensures.others)

-- the uses of the first branch are given up, those of the second stay
first_ended : (old new : List Slot) (xs ys : Candidates) → IsExchange old xs new [] → IsExchange old (xs ++ ys) new ys
first_ended old new xs ys one =
    exchange_among old new ys xs [] (xs ++ ys) ys (λ s. omega (arith, uses_of_both xs ys s)) (λ s. omega arith) one

pub end_list-requires-2-clause-held : goal.end_list-requires-2-clause-held
end_list-requires-2-clause-held c =
    let b_held = second_stays _ _ c.args.at _ _ _ c.requires.live c.end_list.ensures.others in
    let b_same = held_items _ _ _ _ b_held in
    subst (λ (l : Candidates). HoldsFor (slots_of c.end_list.new.arena) l) (sym b_same)
    (exchanged_held _ _ _ _ c.requires.held (first_ended _ _ _ (items_of c.args.pool.now c.args.at.b) c.end_list.ensures.uses))

pub returns-clause-uses : goal.returns-clause-uses
returns-clause-uses c =
    let b_held = second_stays _ _ c.args.at _ _ _ c.requires.live c.end_list.ensures.others in
    let b_same = held_items _ _ _ _ b_held in
    exchange_then _ _ _ _ _ _ (first_ended _ _ _ (items_of c.args.pool.now c.args.at.b) c.end_list.ensures.uses)
    (exchange_of _ _ _ _ _ b_same c.end_list-2.ensures.uses)

pub returns-clause-spare : goal.returns-clause-spare
returns-clause-spare c =
    let b_held = second_stays _ _ c.args.at _ _ _ c.requires.live c.end_list.ensures.others in
    let b_long = ap (λ (l : Candidates). length l) (held_items _ _ _ _ b_held) in
    omega (arith, c.end_list.ensures.spare, c.end_list-2.ensures.spare, b_long)

pub returns-clause-list : goal.returns-clause-list
returns-clause-list c = list_stays _ _ _ c.args.at _ _ _ c.requires.live c.end_list.ensures.others c.end_list-2.ensures.others
