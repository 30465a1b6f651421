use Rattle.bench_lists.proofs.TurnLaws.{IsEmptying}
use Rattle.bench_lists.proofs.lists.empty.Given as goal

abbrev pub invariant-tags : goal.invariant-tags
invariant-tags l = IsEmptying l.initial.pool l.pool l.bag l.size l.counter
