use Rattle.sol_arena.proofs.MakeLemmas.{made_room, made_within, made_new, made_arena}
use Rattle.sol_arena.proofs.make.make.Goals as goal

pub give_uses-requires-clause-room : goal.give_uses-requires-clause-room
give_uses-requires-clause-room c = made_room c.args.slots.now.items c.put.new.slots.items c.args.free.now c.put.new.free c.in_ok-s.s c.args.made c.put.new.slots.items c.requires.arena c.in_ok-s.ensures.placed c.requires.solution c.requires.live

pub give_uses-requires-clause-within : goal.give_uses-requires-clause-within
give_uses-requires-clause-within c = made_within c.args.slots.now.items c.put.new.slots.items c.args.free.now c.put.new.free c.in_ok-s.s c.args.made c.put.new.slots.items c.requires.arena c.in_ok-s.ensures.placed c.requires.solution c.requires.live

pub returns-clause-new : goal.returns-clause-new
returns-clause-new c = made_new c.args.slots.now.items c.give_uses.new.slots.items c.args.free.now c.put.new.free c.in_ok-s.s c.args.made c.put.new.slots.items c.requires.arena c.in_ok-s.ensures.placed c.requires.solution c.requires.live c.give_uses.ensures

pub returns-clause-arena : goal.returns-clause-arena
returns-clause-arena c = made_arena c.args.slots.now.items c.give_uses.new.slots.items c.args.free.now c.put.new.free c.in_ok-s.s c.args.made c.put.new.slots.items c.requires.arena c.in_ok-s.ensures.placed c.requires.solution c.requires.live c.give_uses.ensures
