use Rattle.spef_write.proofs.ShapeLemmas.{heads_name_nets as law}
use Rattle.spef_write.proofs.laws.heads_name_nets.Goals as goal

pub returns : goal.returns
returns c = law
