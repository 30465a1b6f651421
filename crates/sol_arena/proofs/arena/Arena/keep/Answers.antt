use Rattle.sol_arena.proofs.KeepLemmas.{used_arena, used_held}
use Rattle.sol_arena.proofs.arena.Arena.keep.Goals as goal

pub invariant_of-self : goal.invariant_of-self
invariant_of-self c = record { sound = used_arena c.args.self.now.slots.items c.use_once.new.slots.items c.args.self.now.free c.args.sol.0 c.args.self.now.sound c.use_once.ensures c.requires.live c.requires.room }

pub returns-clause-held : goal.returns-clause-held
returns-clause-held c = used_held c.args.self.now.slots.items c.use_once.new.slots.items c.args.self.now.free c.args.sol.0 c.args.self.now.sound c.use_once.ensures
