use Rattle.sol_arena.proofs.TurnLemmas.{dropped_cell, dropped_join, read_made, giving_within}
use Rattle.sol_arena.proofs.release.drop_last.Goals as goal

pub returns-in-Cell : goal.returns-in-Cell
returns-in-Cell c =
    dropped_cell c.args.slots.now.items c.args.free.now c.args.owed.now c.args.sol c.in-Cell.node c.in-Cell.rep c.in-Cell.below c.requires.giving c.requires.last
    (read_made c.args.slots.now.items c.args.sol c.index.result.now _ c.index.ensures (giving_within c.args.slots.now.items c.args.free.now c.args.owed.now c.args.sol c.requires.giving c.requires.some) c.in-Cell.is)

pub returns-in-Join : goal.returns-in-Join
returns-in-Join c =
    dropped_join c.args.slots.now.items c.args.free.now c.args.owed.now c.args.sol c.in-Join.a c.in-Join.b c.requires.giving c.requires.last
    (read_made c.args.slots.now.items c.args.sol c.index.result.now _ c.index.ensures (giving_within c.args.slots.now.items c.args.free.now c.args.owed.now c.args.sol c.requires.giving c.requires.some) c.in-Join.is)
