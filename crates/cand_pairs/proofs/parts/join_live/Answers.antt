use Rattle.std.proofs.Common.{true, false}
use Rattle.cand_pairs.proofs.JoinLemmas.{parent_within, part_small, kept_small, joined_part, resistance_is, same_joined}
use Rattle.cand_pairs.proofs.parts.join_live.Goals as goal

pub join_class-requires-clause-upper_rises : goal.join_class-requires-clause-upper_rises
join_class-requires-clause-upper_rises c = rw c.deref.ensures.value (c.requires.upper.exact false).rising

pub join_class-requires-clause-upper_small : goal.join_class-requires-clause-upper_small
join_class-requires-clause-upper_small c =
    rw c.deref.ensures.value (part_small c.args.p.now _ _ _ (parent_within c.args.p.now c.args.node c.requires.below_root c.requires.node) c.requires.upper false)

pub join_class-requires-clause-lower_rises : goal.join_class-requires-clause-lower_rises
join_class-requires-clause-lower_rises c = rw c.deref-2.ensures.value (c.requires.lower false).rising

pub join_class-requires-clause-lower_small : goal.join_class-requires-clause-lower_small
join_class-requires-clause-lower_small c = rw c.deref-2.ensures.value (kept_small c.args.p.now c.args.node false _ (c.requires.lower false))

pub join_class-requires-2-clause-upper_rises : goal.join_class-requires-2-clause-upper_rises
join_class-requires-2-clause-upper_rises c = rw c.deref-3.ensures.value (c.requires.upper.exact true).rising

pub join_class-requires-2-clause-upper_small : goal.join_class-requires-2-clause-upper_small
join_class-requires-2-clause-upper_small c =
    rw c.deref-3.ensures.value (part_small c.args.p.now _ _ _ (parent_within c.args.p.now c.args.node c.requires.below_root c.requires.node) c.requires.upper true)

pub join_class-requires-2-clause-lower_rises : goal.join_class-requires-2-clause-lower_rises
join_class-requires-2-clause-lower_rises c = rw c.deref-4.ensures.value (c.requires.lower true).rising

pub join_class-requires-2-clause-lower_small : goal.join_class-requires-2-clause-lower_small
join_class-requires-2-clause-lower_small c = rw c.deref-4.ensures.value (kept_small c.args.p.now c.args.node true _ (c.requires.lower true))

pub returns : goal.returns
returns c =
    joined_part c.args.p.now c.args.node c.args.upper.now c.args.lower.now (record { evens = c.in_ok-evens.evens; odds = c.in_ok-odds.odds }) c.requires.below_root c.requires.node c.requires.live c.requires.upper c.requires.lower
    (same_joined _ _ _ _ _ _ _
    (resistance_is c.as_slice.result.now c.args.p.now.tree.nodes c.args.node c.as_slice.ensures (record { parent = 0; r = 0; c = 0 }) c.requires.node)
    c.deref.ensures.value c.deref-2.ensures.value c.in_ok-evens.ensures)
    (same_joined _ _ _ _ _ _ _
    (resistance_is c.as_slice.result.now c.args.p.now.tree.nodes c.args.node c.as_slice.ensures (record { parent = 0; r = 0; c = 0 }) c.requires.node)
    c.deref-3.ensures.value c.deref-4.ensures.value c.in_ok-odds.ensures)
