use Rattle.divided_laws.proofs.DividedSlackLemmas.{keeps_slack}
use Rattle.divided_laws.proofs.laws.divided_problems_keep_slack.Goals as goal

pub returns : goal.returns
returns c = keeps_slack
