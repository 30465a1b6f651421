use Rattle.cand_pool.specs.Candidates.{Candidates}
use Rattle.bench_lists.proofs.BranchLaws.{IsRising, floor}
use Rattle.bench_lists.proofs.branches.rising.Given as goal

abbrev pub invariant-places : goal.invariant-places
invariant-places l = (xs : Candidates) × IsRising l.fn.pool l.pool l.list l.at (floor l.at) xs
