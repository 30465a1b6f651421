use Rattle.split_laws.proofs.ReadPassLemmas.{read_stages_are_accepted}
use Rattle.split_laws.proofs.laws.read_stages_are_accepted.Goals as goal

pub returns : goal.returns
returns c = read_stages_are_accepted
