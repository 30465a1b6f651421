use Rattle.cand_pairs.proofs.JoinLemmas.{small_modest, wires_small}
use Rattle.cand_pairs.proofs.parts.join_class.Goals as goal

pub through_wire-requires-clause-limits : goal.through_wire-requires-clause-limits
through_wire-requires-clause-limits c = small_modest c.args.lower.now c.requires.lower_small

pub meet_all-requires-clause-ys_rise : goal.meet_all-requires-clause-ys_rise
meet_all-requires-clause-ys_rise c = rw c.deref.ensures.value c.in_ok-above.ensures.rising

pub meet_all-requires-clause-ys_small : goal.meet_all-requires-clause-ys_small
meet_all-requires-clause-ys_small c =
    rw c.deref.ensures.value (wires_small c.args.r c.args.lower.now c.in_ok-above.above.items c.requires.r c.in_ok-above.ensures c.requires.lower_small)

pub returns : goal.returns
returns c = (c.in_ok-above.above.items, c.in_ok-above.ensures, rw c.deref.ensures.value at c.in_ok-joined.ensures)
