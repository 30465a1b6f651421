use Rattle.vg_convex.proofs.Stacks.{ready_push as law}
use Rattle.vg_convex.proofs.laws.pair_goes_on.Goals as goal

pub returns : goal.returns
returns c = law
