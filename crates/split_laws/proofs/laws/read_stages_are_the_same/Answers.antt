use Rattle.split_laws.proofs.ReadLemmas.{read_stages_are_the_same}
use Rattle.split_laws.proofs.laws.read_stages_are_the_same.Goals as goal

pub returns : goal.returns
returns c = read_stages_are_the_same
