use Rattle.vg_total.proofs.LawLemmas.{found_rise}
use Rattle.vg_total.proofs.laws.found_points_rise.Goals as goal

pub returns : goal.returns
returns c = found_rise
