use Rattle.ver_net.proofs.TiedLemmas.{tied_nets_are_shared as law}
use Rattle.ver_net.proofs.laws.tied_nets_are_shared.Goals as goal

pub returns : goal.returns
returns c = law
