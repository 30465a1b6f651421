use Rattle.ver_net.proofs.LawLemmas.{pins_rise as law}
use Rattle.ver_net.proofs.laws.pins_rise.Goals as goal

pub returns : goal.returns
returns c = law
