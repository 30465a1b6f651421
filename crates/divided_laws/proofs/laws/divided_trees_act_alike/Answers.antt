use Rattle.divided_laws.proofs.DividedDelayLemmas.{acts_alike}
use Rattle.divided_laws.proofs.laws.divided_trees_act_alike.Goals as goal

pub returns : goal.returns
returns c = acts_alike
