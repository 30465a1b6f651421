use Rattle.ver_net.proofs.LawLemmas.{pins_are_linked as law}
use Rattle.ver_net.proofs.laws.pins_are_linked.Goals as goal

pub returns : goal.returns
returns c = law
