use Rattle.vg_convex.proofs.Peaks.{peak_greatest as law}
use Rattle.vg_convex.proofs.laws.peak_is_greatest.Goals as goal

pub returns : goal.returns
returns c = law
