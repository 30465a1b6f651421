use Rattle.std.proofs.Common.{◌+◌, length}
use Rattle.cand_pool.specs.Pools.{items_of}
use Rattle.vg_convex.proofs.Walks.{left_from}
use Rattle.vg_slack.proofs.CopyLemmas.{IsCopy}
use Rattle.vg_slack.proofs.lists.copy.Given as goal

abbrev pub invariant-walk : goal.invariant-walk
invariant-walk g l =
    let xs = items_of l.pool l.list in
    IsCopy l.pool xs l.fn.to.items l.next l.to.items l.steps (l.fn.steps + length xs)

abbrev pub decreases-walk : goal.decreases-walk
decreases-walk g l = left_from l.pool l.next
