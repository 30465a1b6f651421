use Rattle.vg_total.proofs.LawLemmas.{total_of_nets}
use Rattle.vg_total.proofs.laws.total_of_nets.Goals as goal

pub returns : goal.returns
returns c = total_of_nets
