use Rattle.cand_pool.specs.Candidates.{Candidates}
use Rattle.bench_lists.proofs.TurnLaws.{IsFilling, AreRising}
use Rattle.bench_lists.proofs.lists.fill.Given as goal

abbrev pub invariant-places : goal.invariant-places
invariant-places l = (xs : Candidates) × IsFilling l.fn.pool l.pool l.list l.at xs × AreRising l.at xs
