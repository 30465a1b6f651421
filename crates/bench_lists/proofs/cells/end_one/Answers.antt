use Rattle.bench_lists.proofs.BranchLaws.{held_bare}
use Rattle.bench_lists.proofs.cells.end_one.Goals as goal

pub end_list-requires-clause-live : goal.end_list-requires-clause-live
end_list-requires-clause-live c = c.bent-list.ensures.ready.made.0

pub end_list-requires-clause-held : goal.end_list-requires-clause-held
end_list-requires-clause-held c = held_bare _ _ c.bent-list.ensures.ready.bare
