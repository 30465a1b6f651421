use Rattle.sol_arena.proofs.KeepLemmas.{arena_empty}
use Rattle.sol_arena.proofs.arena.Arena.new.Goals as goal

pub invariant_of-result : goal.invariant_of-result
invariant_of-result c = record { sound = arena_empty c.new.result.items c.new.ensures.items }
