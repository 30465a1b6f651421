use Rattle.divided_laws.proofs.DividedPathLemmas.{keeps_sinks_below}
use Rattle.divided_laws.proofs.laws.divided_trees_keep_sinks_below.Goals as goal

pub returns : goal.returns
returns c = keeps_sinks_below
