use Rattle.sol_arena.proofs.TurnLemmas.{used_less}
use Rattle.sol_arena.proofs.release.lessen.Goals as goal

pub returns-then-sol-ne-NONE : goal.returns-then-sol-ne-NONE
returns-then-sol-ne-NONE c = used_less c.args.slots.now.items c.args.sol c.index_mut.result.now c.index_mut.ensures.value (c.requires.within c.if-sol-ne-NONE.true) (c.requires.more c.if-sol-ne-NONE.true)
