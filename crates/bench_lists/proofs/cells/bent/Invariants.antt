use Rattle.cand_pool.specs.Candidates.{Candidates}
use Rattle.bench_lists.proofs.BranchLaws.{IsRising, IsTop, pair_at}
use Rattle.bench_lists.proofs.cells.bent.Given as goal

abbrev pub invariant-places : goal.invariant-places
invariant-places l = ((xs : Candidates) × IsRising l.fn.pool l.pool l.list l.counter (pair_at l.top) xs) × IsTop l.counter l.top l.gain
