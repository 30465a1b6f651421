use Rattle.split_laws.proofs.AgainLemmas.{read_nets_are_the_same}
use Rattle.split_laws.proofs.laws.read_nets_are_the_same.Goals as goal

pub returns : goal.returns
returns c = read_nets_are_the_same
