use Rattle.std.proofs.Common.{ap}
use Rattle.sol_arena.proofs.WalkLemmas.{none_means}
use Rattle.sol_arena.proofs.arena.Arena.empty.Goals as goal

pub returns-clause-bare : goal.returns-clause-bare
returns-clause-bare c = λ v. ap (λ f. f v) (none_means c.args.self.now.slots.items c.args.self.now.free c.args.self.now.sound)
