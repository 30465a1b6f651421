use Rattle.divided_laws.proofs.DividedTotalLemmas.{keeps_totals}
use Rattle.divided_laws.proofs.laws.divided_trees_keep_totals.Goals as goal

pub returns : goal.returns
returns c = keeps_totals
