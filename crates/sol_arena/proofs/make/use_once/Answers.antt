use Rattle.sol_arena.proofs.MakeLemmas.{used_once}
use Rattle.sol_arena.proofs.make.use_once.Goals as goal

pub returns-then-s-ne-NONE : goal.returns-then-s-ne-NONE
returns-then-s-ne-NONE c = used_once c.args.slots.now.items c.args.s c.index_mut.result.now c.index_mut.ensures.value (c.requires.within c.if-s-ne-NONE.true)
