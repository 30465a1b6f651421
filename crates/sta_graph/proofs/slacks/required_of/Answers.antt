use Rattle.std.proofs.Common.{length, subst, sym}
use Rattle.sta_graph.specs.Passes.{IsBackward}
use Rattle.sta_graph.proofs.slacks.required_of.Goals as goal

pub backward-requires-clause-begun : goal.backward-requires-clause-begun
backward-requires-clause-begun c =
    subst (IsBackward c.args.g.now c.args.order.now (length c.args.order.now) 2) (sym c.deref_mut.ensures.value) (c.in_ok-times.ensures c.args.order.now)
