use Rattle.std.proofs.Common.{ℕ, ◌+◌, length}
use Rattle.vg_convex.specs.Places.{IsWalk}
use Rattle.vg_convex.proofs.Walks.{IsGrowing, left_from}
use Rattle.vg_convex.proofs.search.grow.Given as goal

abbrev pub ghost-put_on : goal.ghost-put_on
ghost-put_on g a = g.xs

abbrev pub invariant-grow : goal.invariant-grow
invariant-grow g l = (n : ℕ) → IsWalk l.pool g.xs n l.fn.stack.items l.fn.next
    → IsGrowing l.pool g.xs l.limit n l.stack.items l.next (l.fn.steps + length l.fn.stack.items) l.steps

abbrev pub decreases-grow : goal.decreases-grow
decreases-grow g l = left_from l.pool l.next
