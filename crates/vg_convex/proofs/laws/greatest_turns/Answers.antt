use Rattle.vg_convex.proofs.Peaks.{greatest_turns as law}
use Rattle.vg_convex.proofs.laws.greatest_turns.Goals as goal

pub returns : goal.returns
returns c = law
