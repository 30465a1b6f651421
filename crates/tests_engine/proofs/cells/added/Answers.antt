use Rattle.std.proofs.Common.{Bool, true, false, cond}
use Rattle.elmore.specs.declared.allowed.Allowed.TheVariants.{All as AllOf}
use Rattle.sol_arena.specs.Arenas.{made_of}
use Rattle.vg_convex.specs.Lists.{AreBareAt}
use Rattle.tests_engine.proofs.ReadyLaws.{bare_of}
use Rattle.tests_engine.proofs.cells.added.Goals as goal

pub add_cells-requires-clause-found : goal.add_cells-requires-clause-found
add_cells-requires-clause-found g c = (
  AllOf,
  λ inverts. cond inverts c.in_ok-inverters.ensures.xs c.in_ok-buffers.ensures.xs,
  record { by_buffers = c.in_ok-buffers.ensures.found; by_inverters = c.in_ok-inverters.ensures.found },
  bare,
)
  where
    bare : (inverts : Bool) → AreBareAt (made_of c.new-arena.result) 0 (cond inverts c.in_ok-inverters.ensures.xs c.in_ok-buffers.ensures.xs)
    bare true = bare_of c.new-arena.result 0 c.in_ok-inverters.ensures.xs c.in_ok-inverters.ensures.bare
    bare false = bare_of c.new-arena.result 0 c.in_ok-buffers.ensures.xs c.in_ok-buffers.ensures.bare
