use Rattle.vg_convex.proofs.Peaks.{falls_after as law}
use Rattle.vg_convex.proofs.laws.values_fall.Goals as goal

pub returns : goal.returns
returns c = law
