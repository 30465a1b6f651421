use Rattle.std.proofs.Common.{subst, sym}
use Rattle.sta_graph.specs.Passes.{IsForward}
use Rattle.sta_graph.proofs.slacks.arrivals_of.Goals as goal

pub forward-requires-clause-begun : goal.forward-requires-clause-begun
forward-requires-clause-begun c =
    subst (IsForward c.args.g.now c.args.order.now 0) (sym c.deref_mut.ensures.value) (c.in_ok-times.ensures c.args.order.now c.requires.small)
