use Rattle.cut_laws.proofs.CutTimeLemmas.{cut_retimes, cut_slack}
use Rattle.cut_laws.proofs.laws.cut_nets_retime.Goals as goal

pub returns : goal.returns
returns c = λ p cells pieces is_placed cut x. (cut_retimes p cells pieces is_placed cut x, cut_slack p cells pieces is_placed cut x)
