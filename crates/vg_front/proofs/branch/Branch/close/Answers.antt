use Rattle.std.proofs.Common.{rules, ◌≡◌, false, [], slice_index_or}
use Rattle.sol_arena.specs.Arenas.{slots_of, made_of}
use Rattle.vg_front.specs.Branches.{list_of, all_of}
use Rattle.vg_front.proofs.PlaceLemmas.{both_held, first_held, first_same, branch_same, given_more, given_after}
use Rattle.vg_front.proofs.CloseLemmas.{bare_closed, place_closed}
use Rattle.vg_front.proofs.branch.Branch.close.Goals as goal

pub returns-then-not-as_slice-node-clause-closed : goal.returns-then-not-as_slice-node-clause-closed
returns-then-not-as_slice-node-clause-closed c =
    let none : slice_index_or c.args.p.now.places c.args.node false ≡ false = search rules in
    bare_closed c.args.p.now c.args.cap c.args.node c.requires.node (made_of c.args.arena.now) (list_of c.args.self) c.requires.«open» none

pub absorb-requires : goal.absorb-requires
absorb-requires c = record {
  held = both_held c.args.arena.now c.with_cells.new.arena (all_of c.args.self) (all_of c.in-Ok.cells) c.requires.held c.in-Ok.ensures.given;
}

pub give_up-requires : goal.give_up-requires
give_up-requires c = record {
  held = first_held c.args.arena.now c.with_cells.new.arena (all_of c.args.self) [] c.requires.held c.in-Err.ensures.given;
}

pub returns-in-Err-clause-given : goal.returns-in-Err-clause-given
returns-in-Err-clause-given c =
    given_after (slots_of c.args.arena.now) (slots_of c.with_cells.new.arena) (slots_of c.give_up.new.arena) (all_of c.args.self) [] c.in-Err.ensures.given
    c.give_up.ensures.given

pub returns-in-Ok-absorb-clause-given : goal.returns-in-Ok-absorb-clause-given
returns-in-Ok-absorb-clause-given c =
    given_more (slots_of c.args.arena.now) (slots_of c.with_cells.new.arena) (slots_of c.absorb.new.arena) (all_of c.args.self) (all_of c.in-Ok.cells)
    (all_of c.in-Ok-absorb.branch) c.in-Ok.ensures.given c.in-Ok-absorb.ensures.given

pub returns-in-Err-absorb-clause-given : goal.returns-in-Err-absorb-clause-given
returns-in-Err-absorb-clause-given c =
    given_more (slots_of c.args.arena.now) (slots_of c.with_cells.new.arena) (slots_of c.absorb.new.arena) (all_of c.args.self) (all_of c.in-Ok.cells) []
    c.in-Ok.ensures.given c.in-Err-absorb.ensures.given

pub returns-in-Ok-absorb-clause-closed : goal.returns-in-Ok-absorb-clause-closed
returns-in-Ok-absorb-clause-closed c =
    place_closed c.args.p.now c.args.cap c.args.node c.requires.node (made_of c.args.arena.now) (list_of c.args.self) c.requires.«open»
    (made_of c.with_cells.new.arena) (made_of c.absorb.new.arena) (list_of c.in-Ok.cells) (list_of c.in-Ok-absorb.branch)
    (branch_same (made_of c.args.arena.now) (made_of c.with_cells.new.arena) c.args.self
    (first_same c.args.arena.now c.with_cells.new.arena (all_of c.args.self) (all_of c.in-Ok.cells) c.requires.held c.in-Ok.ensures.given))
    c.in-Ok.ensures.cells c.in-Ok.ensures.solved c.in-Ok-absorb.ensures.blend
    (branch_same (made_of c.with_cells.new.arena) (made_of c.absorb.new.arena) c.in-Ok-absorb.branch c.in-Ok-absorb.ensures.same)
