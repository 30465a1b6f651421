use Rattle.sol_arena.specs.Arenas.{slots_of}
use Rattle.vg_front.specs.Parts.{all_held}
use Rattle.vg_front.proofs.ClimbLemmas.{given_on, last_held, last_given}
use Rattle.vg_front.proofs.climb.give_up_all.Goals as goal

pub give_up-requires : goal.give_up-requires
give_up-requires c = record {
  held = last_held c.parts.parts.items c.pop.new.self.items c.in-Some.part c.in-Some.ensures.items (slots_of c.parts.arena) c.parts.invariant.held;
}

pub parts-preserved : goal.parts-preserved
parts-preserved c =
    given_on c.args.arena.now c.parts.arena c.give_up.new.arena (all_held c.args.parts.now.items) (all_held c.parts.parts.items)
    (all_held c.pop.new.self.items)
    c.parts.invariant
    (last_given c.parts.parts.items c.pop.new.self.items c.in-Some.part c.in-Some.ensures.items (slots_of c.parts.arena) (slots_of c.give_up.new.arena)
    c.give_up.ensures.given)
