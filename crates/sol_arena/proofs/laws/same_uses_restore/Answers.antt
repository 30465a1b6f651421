use Rattle.sol_arena.proofs.ReachLemmas.{restored}
use Rattle.sol_arena.proofs.laws.same_uses_restore.Goals as goal

pub returns : goal.returns
returns c = restored c.args.old.now c.args.new.now c.requires.held c.requires.frame
