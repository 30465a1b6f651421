use Rattle.cut_laws.proofs.CutTimeLemmas.{cut_wanted, cut_polarity}
use Rattle.cut_laws.proofs.laws.cut_nets_have_polarity.Goals as goal

pub returns : goal.returns
returns c = λ p cells pieces is_placed cut. (cut_wanted p cells pieces is_placed cut, cut_polarity p cells pieces is_placed cut)
