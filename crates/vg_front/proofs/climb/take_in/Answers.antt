use Rattle.std.proofs.Common.{◌+◌, [], ◌++◌, subst}
use Rattle.elmore.specs.Trees.{parent_of}
use Rattle.sol_arena.specs.Arenas.{slots_of, made_of}
use Rattle.cand_pairs.proofs.TurnLemmas.{part_is_dead, part_load}
use Rattle.vg_front.specs.Branches.{list_of, all_of}
use Rattle.vg_front.specs.Held.{IsGiven}
use Rattle.vg_front.specs.Parts.{held_in, IsPart}
use Rattle.vg_front.proofs.BoundLemmas.{open_bounded}
use Rattle.vg_front.proofs.ClimbLemmas.{err_answers, part_same, branch_live, closed_held, upper_held, upper_same, closed_then, lost_then}
use Rattle.vg_front.proofs.climb.take_in.Goals as goal

pub take_dead-requires-clause-dead : goal.take_dead-requires-clause-dead
take_dead-requires-clause-dead c =
    part_is_dead c.args.p.now c.args.node c.in-Dead.c c.requires.node
    (subst (IsPart c.args.p.now c.args.cap (c.args.node + 1) c.args.node (made_of c.args.arena.now)) c.in-Dead.is c.requires.whole)

pub take_dead-requires-clause-load : goal.take_dead-requires-clause-load
take_dead-requires-clause-load c =
    part_load c.args.p.now c.args.node c.in-Dead.c c.requires.node
    (subst (IsPart c.args.p.now c.args.cap (c.args.node + 1) c.args.node (made_of c.args.arena.now)) c.in-Dead.is c.requires.whole)

pub returns-in-Dead-clause-part : goal.returns-in-Dead-clause-part
returns-in-Dead-clause-part c = c.take_dead.ensures.part (made_of c.args.arena.now) c.args.cap c.requires.upper

pub close-requires-clause-bounded : goal.close-requires-clause-bounded
close-requires-clause-bounded c =
    open_bounded c.args.p.now c.args.cap (c.args.node + 1) c.args.node (made_of c.args.arena.now) (list_of c.in-Live.branch) c.requires.node
    (subst (IsPart c.args.p.now c.args.cap (c.args.node + 1) c.args.node (made_of c.args.arena.now)) c.in-Live.is c.requires.whole)

pub take_live-requires-clause-live : goal.take_live-requires-clause-live
take_live-requires-clause-live c =
    branch_live c.args.p.now c.args.cap c.args.node (made_of c.args.arena.now) c.in-Live.branch c.requires.node
    (subst (IsPart c.args.p.now c.args.cap (c.args.node + 1) c.args.node (made_of c.args.arena.now)) c.in-Live.is c.requires.whole)

pub take_live-requires-clause-held : goal.take_live-requires-clause-held
take_live-requires-clause-held c =
    closed_held c.args.arena.now c.close.new.arena c.args.upper c.args.part c.in-Live.branch c.in-Live.is c.requires.held
    (all_of c.in-Ok.branch) c.in-Ok.ensures.given

pub take_live-requires-clause-upper : goal.take_live-requires-clause-upper
take_live-requires-clause-upper c =
    part_same c.args.p.now c.args.cap (c.args.node + 1) (parent_of c.args.p.now.tree.nodes c.args.node)
    (made_of c.args.arena.now) (made_of c.close.new.arena) c.args.upper
    (upper_same c.args.arena.now c.close.new.arena c.args.upper c.args.part c.in-Live.branch c.in-Live.is c.requires.held
    (all_of c.in-Ok.branch) c.in-Ok.ensures.given)
    c.requires.upper

pub returns-in_err-taken-in-Ok-clause-given : goal.returns-in_err-taken-in-Ok-clause-given
returns-in_err-taken-in-Ok-clause-given c =
    err_answers c.from_residual.result
    (λ taken. IsGiven (slots_of c.args.arena.now) (held_in c.args.upper ++ held_in c.args.part) (slots_of c.take_live.new.arena) (held_in taken))
    (IsGiven (slots_of c.args.arena.now) (held_in c.args.upper ++ held_in c.args.part) (slots_of c.take_live.new.arena) []) c.from_residual.ensures.0
    (closed_then c.args.arena.now c.close.new.arena c.args.upper c.args.part c.in-Live.branch c.in-Live.is c.requires.held
    (all_of c.in-Ok.branch) c.in-Ok.ensures.given
    c.take_live.new.arena [] c.in_err-taken-in-Ok.ensures.given)

pub returns-in_ok-taken-in-Ok-clause-given : goal.returns-in_ok-taken-in-Ok-clause-given
returns-in_ok-taken-in-Ok-clause-given c =
    closed_then c.args.arena.now c.close.new.arena c.args.upper c.args.part c.in-Live.branch c.in-Live.is c.requires.held
    (all_of c.in-Ok.branch) c.in-Ok.ensures.given
    c.take_live.new.arena (held_in c.in_ok-taken-in-Ok.taken) c.in_ok-taken-in-Ok.ensures.given

pub give_up-requires : goal.give_up-requires
give_up-requires c = record {
  held = upper_held c.args.arena.now c.close.new.arena c.args.upper c.args.part c.in-Live.branch c.in-Live.is c.requires.held [] c.in-Err.ensures.given;
}

pub returns-in-Err-clause-given : goal.returns-in-Err-clause-given
returns-in-Err-clause-given c =
    lost_then c.args.arena.now c.close.new.arena c.args.upper c.args.part c.in-Live.branch c.in-Live.is c.requires.held c.in-Err.ensures.given
    c.give_up.new.arena c.give_up.ensures.given
