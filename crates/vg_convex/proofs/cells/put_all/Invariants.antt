use Rattle.std.proofs.Common.{take}
use Rattle.sol_arena.specs.Arenas.{slots_of, made_of}
use Rattle.cand_pool.specs.Candidates.{Candidates}
use Rattle.vg_convex.specs.Lists.{AreAdded, AreWithCells}
use Rattle.vg_convex.proofs.cells.put_all.Given as goal

abbrev pub invariant-results : goal.invariant-results
invariant-results l =
    (zs : Candidates) × AreAdded l.fn.pool l.pool (slots_of l.fn.arena) (slots_of l.arena) l.list zs
    × AreWithCells (made_of l.fn.arena) (made_of l.arena) l.node (take l.made-index l.results) zs
