use Rattle.vg_convex.proofs.Stacks.{ready_pop as law}
use Rattle.vg_convex.proofs.laws.pair_comes_off.Goals as goal

pub returns : goal.returns
returns c = law
