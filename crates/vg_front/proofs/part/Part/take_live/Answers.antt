use Rattle.std.proofs.Common.{◌≡◌, ◌+◌, ◌++◌, [], map, subst, sym, ap, ◌∙◌, arith}
use Rattle.elmore.specs.Trees.{parent_of, resistance}
use Rattle.sol_arena.specs.Arenas.{slots_of, made_of}
use Rattle.cand_pairs.proofs.JoinLemmas.{parent_within}
use Rattle.vg_front.specs.declared.part.Part.{Part}
use Rattle.vg_front.specs.Branches.{list_of, all_of}
use Rattle.vg_front.specs.Held.{AreHeld, IsGiven, carried_by}
use Rattle.vg_front.specs.Parts.{IsPart, held_in}
use Rattle.vg_front.specs.Sinks.{load_beside}
use Rattle.vg_front.proofs.BoundLemmas.{closed_bounded}
use Rattle.vg_front.proofs.HeldLemmas.{given_then, given_held}
use Rattle.vg_front.proofs.PartLemmas.{beside_small, live_dead, open_as, beside_given, err_answers}
use Rattle.vg_front.proofs.part.Part.take_live.Goals as goal

pub carry-requires-clause-load : goal.carry-requires-clause-load
carry-requires-clause-load c =
    let small =
    beside_small c.args.p.now c.args.cap (c.args.node + 1) (parent_of c.args.p.now.tree.nodes c.args.node) (made_of c.args.arena.now) c.args.self
    (parent_within c.args.p.now c.args.node c.requires.below_root c.requires.node) c.requires.upper in
    omega (arith, small, c.load_beside.ensures)

pub carry-requires-clause-bounded : goal.carry-requires-clause-bounded
carry-requires-clause-bounded c = closed_bounded c.args.p.now c.args.cap c.args.node (made_of c.args.arena.now) (list_of c.args.branch) c.requires.closed

pub meet-requires-clause-held : goal.meet-requires-clause-held
meet-requires-clause-held c =
    subst (λ (t : Part). AreHeld (slots_of c.args.arena.now) (held_in t ++ all_of c.carry.new.self)) c.in-Live.is
    (given_held (slots_of c.args.arena.now) (slots_of c.args.arena.now) (held_in c.args.self ++ all_of c.args.branch)
    (held_in c.args.self ++ all_of c.carry.new.self) c.requires.held
    (beside_given (slots_of c.args.arena.now) (held_in c.args.self) c.resistance_of.result c.load_beside.result c.args.branch c.carry.new.self
    c.carry.ensures))

pub returns-in_err-both-in-Live-clause-given : goal.returns-in_err-both-in-Live-clause-given
returns-in_err-both-in-Live-clause-given c =
    let lost : IsGiven (slots_of c.args.arena.now) (held_in c.args.self ++ all_of c.args.branch) (slots_of c.meet.new.arena) []
    = given_then (slots_of c.args.arena.now) (slots_of c.args.arena.now) (slots_of c.meet.new.arena) (held_in c.args.self ++ all_of c.args.branch)
    (held_in c.args.self ++ all_of c.carry.new.self) []
    (beside_given (slots_of c.args.arena.now) (held_in c.args.self) c.resistance_of.result c.load_beside.result c.args.branch c.carry.new.self
    c.carry.ensures)
    (subst (λ (t : Part). IsGiven (slots_of c.args.arena.now) (held_in t ++ all_of c.carry.new.self) (slots_of c.meet.new.arena) []) (sym c.in-Live.is)
    c.in_err-both-in-Live.ensures.given) in
    err_answers c.from_residual.result _ _ c.from_residual.ensures.0 lost

pub returns-in-Dead-clause-given : goal.returns-in-Dead-clause-given
returns-in-Dead-clause-given c =
    subst (λ (t : Part). IsGiven (slots_of c.args.arena.now) (held_in t ++ all_of c.args.branch) (slots_of c.args.arena.now) (all_of c.carry.new.self))
    (sym c.in-Dead.is)
    (beside_given (slots_of c.args.arena.now) [] c.resistance_of.result c.load_beside.result c.args.branch c.carry.new.self c.carry.ensures)

pub returns-in-Dead-clause-part : goal.returns-in-Dead-clause-part
returns-in-Dead-clause-part c =
    let load : c.load_beside.result ≡ c.in-Dead.field-0 = c.load_beside.ensures ∙ ap load_beside c.in-Dead.is in
    open_as c.args.p.now c.args.cap c.args.node (parent_of c.args.p.now.tree.nodes c.args.node) (made_of c.args.arena.now)
    (λ odd. map (carried_by (resistance c.args.p.now.tree.nodes c.args.node) c.in-Dead.field-0) (list_of c.args.branch odd)) (list_of c.carry.new.self)
    (λ odd. c.carry.ensures odd ∙ (λ i. map (carried_by (c.resistance_of.ensures i) (load i)) (list_of c.args.branch odd)))
    (live_dead c.args.p.now c.args.cap c.args.node c.in-Dead.field-0 c.requires.below_root c.requires.node c.requires.live
    (subst (λ (t : Part). IsPart c.args.p.now c.args.cap (c.args.node + 1) (parent_of c.args.p.now.tree.nodes c.args.node) (made_of c.args.arena.now) t)
    c.in-Dead.is c.requires.upper)
    (made_of c.args.arena.now) (list_of c.args.branch) c.requires.closed)

pub returns-in_ok-both-in-Live-clause-given : goal.returns-in_ok-both-in-Live-clause-given
returns-in_ok-both-in-Live-clause-given c =
    given_then (slots_of c.args.arena.now) (slots_of c.args.arena.now) (slots_of c.meet.new.arena) (held_in c.args.self ++ all_of c.args.branch)
    (held_in c.args.self ++ all_of c.carry.new.self) (all_of c.in_ok-both-in-Live.both)
    (beside_given (slots_of c.args.arena.now) (held_in c.args.self) c.resistance_of.result c.load_beside.result c.args.branch c.carry.new.self
    c.carry.ensures)
    (subst (λ (t : Part). IsGiven (slots_of c.args.arena.now) (held_in t ++ all_of c.carry.new.self) (slots_of c.meet.new.arena)
    (all_of c.in_ok-both-in-Live.both)) (sym c.in-Live.is)
    c.in_ok-both-in-Live.ensures.given)
