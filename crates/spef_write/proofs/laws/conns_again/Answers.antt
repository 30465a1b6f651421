use Rattle.spef_write.proofs.LineLemmas.{conns_again as law}
use Rattle.spef_write.proofs.laws.conns_again.Goals as goal

pub returns : goal.returns
returns c = law
