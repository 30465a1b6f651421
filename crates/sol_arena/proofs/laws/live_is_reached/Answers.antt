use Rattle.sol_arena.specs.Uses.{held_of}
use Rattle.std.proofs.Common.{arith}
use Rattle.sol_arena.proofs.ReachLemmas.{live_reached, reached_live}
use Rattle.sol_arena.proofs.laws.live_is_reached.Goals as goal

pub returns-clause-reached : goal.returns-clause-reached
returns-clause-reached c = λ s is. live_reached c.args.arena.now s is

pub returns-clause-live : goal.returns-clause-live
returns-clause-live c = λ s reached. reached_live c.args.arena.now (held_of c.args.arena.now.slots.items) (λ t _. omega arith) s reached
