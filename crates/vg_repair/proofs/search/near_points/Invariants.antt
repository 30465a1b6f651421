use Rattle.sol_arena.specs.Arenas.{slots_of}
use Rattle.sol_arena.specs.Reach.{IsRestored}
use Rattle.vg_repair.proofs.search.near_points.Given as goal

abbrev pub invariant-halvings : goal.invariant-halvings
invariant-halvings l = record { restored : IsRestored (slots_of l.fn.arena) (slots_of l.arena) }
