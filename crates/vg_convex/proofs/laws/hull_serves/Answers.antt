use Rattle.vg_convex.proofs.Stacks.{hull_serves as law}
use Rattle.vg_convex.proofs.laws.hull_serves.Goals as goal

pub returns : goal.returns
returns c = law
