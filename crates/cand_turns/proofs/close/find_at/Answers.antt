use Rattle.std.proofs.Common.{sym, subst}
use Rattle.vg_convex.specs.Orders.{AreRising}
use Rattle.cand_turns.proofs.CellLemmas.{allowed_rises, allowed_is}
use Rattle.cand_turns.proofs.close.find_at.Goals as goal

pub find_each-requires-clause-allowed : goal.find_each-requires-clause-allowed
find_each-requires-clause-allowed g c =
    subst AreRising (sym (allowed_is c.args.p.now c.args.node c.as_slice.result.now c.index-as_slice-node.result c.requires.node c.as_slice.ensures c.index-as_slice-node.is)) (allowed_rises c.args.p.now c.args.node)
