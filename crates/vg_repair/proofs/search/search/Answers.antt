use Rattle.vg_repair.proofs.RestoredLemmas.{restored_twice}
use Rattle.vg_repair.proofs.search.search.Goals as goal

pub returns-in-Some-clause-restored : goal.returns-in-Some-clause-restored
returns-in-Some-clause-restored c = restored_twice _ _ _ c.best_of.ensures.restored c.search_below.ensures.restored
