use Rattle.divided_laws.proofs.DividedSlackLemmas.{is_no_worse}
use Rattle.divided_laws.proofs.laws.divided_problems_are_no_worse.Goals as goal

pub returns : goal.returns
returns c = is_no_worse
