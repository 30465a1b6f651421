use Rattle.divided_laws.proofs.DividedSlackLemmas.{keeps_good}
use Rattle.divided_laws.proofs.laws.divided_problems_keep_good.Goals as goal

pub returns : goal.returns
returns c = keeps_good
