use Rattle.sol_arena.proofs.TurnLemmas.{giving_end}
use Rattle.sol_arena.proofs.release.give_up.Goals as goal

pub returns-clause-arena : goal.returns-clause-arena
returns-clause-arena c = giving_end c.turn.new.slots.items c.turn.new.free c.turn.new.owed c.in_default.ensures.giving c.in_default.ensures.done
