use Rattle.std.proofs.Common.{rules}
use Rattle.vg_front.specs.Held.{carried_by}
use Rattle.vg_front.proofs.ListLemmas.{carried_at, carried_next}
use Rattle.vg_front.proofs.list.carry.Goals as goal

pub carried-requires-clause-bounded : goal.carried-requires-clause-bounded
carried-requires-clause-bounded c =
    c.requires.bounded c.index.result.now
    (carried_at c.args.list.now.items c.candidates.list.items (carried_by c.args.r c.args.load) c.candidates.at c.index.result.now (search rules)
    c.candidates.invariant c.index.ensures)

pub candidates-preserved : goal.candidates-preserved
candidates-preserved c =
    carried_next c.args.list.now.items c.candidates.list.items c.args.r c.args.load c.candidates.at c.index.result.now c.index_mut.result.now
    c.carried.result (search rules)
    c.candidates.invariant c.index.ensures c.index_mut.ensures.value c.carried.ensures
