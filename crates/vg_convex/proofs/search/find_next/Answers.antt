use Rattle.std.proofs.Common.{arith}
use Rattle.elmore.specs.Cells.{rep_at}
use Rattle.vg_convex.proofs.Walks.{no_further}
use Rattle.vg_convex.proofs.search.find_next.Goals as goal

pub returns-then-not-is_allowed-clause-walk : goal.returns-then-not-is_allowed-clause-walk
returns-then-not-is_allowed-clause-walk g c = λ n w.
    (no_further c.args.pool.now g.xs (rep_at c.args.reps.now c.args.number).limit n c.args.work.now.stack.items c.args.next w, λ d less. omega arith)

pub returns-clause-walk : goal.returns-clause-walk
returns-clause-walk g c = λ n w.
    let (f, over, cost) = c.in_ok-after.ensures.grown n w in
    (f, λ d less. omega (arith, cost, c.find.ensures.cost d less))
