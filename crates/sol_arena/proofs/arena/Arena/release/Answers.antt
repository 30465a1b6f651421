use Rattle.sol_arena.proofs.ReleaseLemmas.{released}
use Rattle.sol_arena.proofs.arena.Arena.release.Goals as goal

pub returns : goal.returns
returns c = released c.args.self.now.slots.items c.give_up.new.slots.items c.args.self.now.free c.give_up.new.free c.args.sol.0 c.args.self.now.sound c.give_up.ensures.arena c.requires.held c.give_up.ensures.turn
