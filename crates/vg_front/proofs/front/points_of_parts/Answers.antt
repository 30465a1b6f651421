use Rattle.std.proofs.Common.{[]}
use Rattle.sol_arena.specs.Arenas.{slots_of, made_of}
use Rattle.vg_front.specs.Parts.{all_held}
use Rattle.vg_front.proofs.HeldLemmas.{given_then, given_held}
use Rattle.vg_front.proofs.ClimbLemmas.{last_held, root_part, root_given}
use Rattle.vg_front.proofs.front.points_of_parts.Goals as goal

pub give_up_all-requires : goal.give_up_all-requires
give_up_all-requires c = record {
  held = given_held (slots_of c.args.arena.now) (slots_of c.climb.new.arena) (all_held c.args.parts.now.items) (all_held c.climb.new.parts.items)
      c.requires.held c.in-Err.ensures.given;
}

pub returns-in-Err-clause-given : goal.returns-in-Err-clause-given
returns-in-Err-clause-given c =
    given_then (slots_of c.args.arena.now) (slots_of c.climb.new.arena) (slots_of c.give_up_all.new.arena) (all_held c.args.parts.now.items)
    (all_held c.climb.new.parts.items) [] c.in-Err.ensures.given c.give_up_all.ensures.given

pub points_at_root-requires-clause-held : goal.points_at_root-requires-clause-held
points_at_root-requires-clause-held c =
    last_held c.climb.new.parts.items c.pop.new.self.items c.in-Some.root c.in-Some.ensures.items (slots_of c.climb.new.arena)
    (given_held (slots_of c.args.arena.now) (slots_of c.climb.new.arena) (all_held c.args.parts.now.items) (all_held c.climb.new.parts.items)
    c.requires.held
    c.in_default.ensures.given)

pub points_at_root-requires-clause-part : goal.points_at_root-requires-clause-part
points_at_root-requires-clause-part c =
    root_part c.args.p.now c.args.cap (made_of c.climb.new.arena) c.climb.new.parts.items c.pop.new.self.items c.in-Some.root c.in-Some.ensures.items
    c.in_default.ensures.parts

pub returns-clause-given : goal.returns-clause-given
returns-clause-given c =
    given_then (slots_of c.args.arena.now) (slots_of c.climb.new.arena) (slots_of c.points_at_root.new.arena) (all_held c.args.parts.now.items)
    (all_held c.climb.new.parts.items) [] c.in_default.ensures.given
    (root_given c.args.p.now c.args.cap (made_of c.climb.new.arena) c.climb.new.parts.items c.pop.new.self.items c.in-Some.root c.in-Some.ensures.items
    c.in_default.ensures.parts (slots_of c.climb.new.arena) (slots_of c.points_at_root.new.arena) c.points_at_root.ensures.given)
