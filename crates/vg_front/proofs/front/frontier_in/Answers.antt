use Rattle.std.proofs.Common.{[]}
use Rattle.sol_arena.specs.Arenas.{slots_of}
use Rattle.vg_front.specs.Parts.{all_held}
use Rattle.vg_front.proofs.HeldLemmas.{given_then}
use Rattle.vg_front.proofs.PlaceLemmas.{alone_held}
use Rattle.vg_front.proofs.ClimbLemmas.{given_restores}
use Rattle.vg_front.proofs.front.frontier_in.Goals as goal

pub points_of_parts-requires-clause-held : goal.points_of_parts-requires-clause-held
points_of_parts-requires-clause-held c =
    alone_held (slots_of c.args.arena.now) (slots_of c.args.arena.now) (all_held c.start.new.parts.items)
    (c.in_ok-start.ensures.given (slots_of c.args.arena.now))

pub points_of_parts-requires-clause-parts : goal.points_of_parts-requires-clause-parts
points_of_parts-requires-clause-parts c = c.in_ok-start.ensures.parts c.args.cap

pub returns-clause-restored : goal.returns-clause-restored
returns-clause-restored c =
    given_restores c.args.arena.now c.points_of_parts.new.arena
    (given_then (slots_of c.args.arena.now) (slots_of c.args.arena.now) (slots_of c.points_of_parts.new.arena) [] (all_held c.start.new.parts.items) []
    (c.in_ok-start.ensures.given (slots_of c.args.arena.now)) c.points_of_parts.ensures.given)
