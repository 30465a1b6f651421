use Rattle.std.proofs.Common.{◌+◌, ◌≤◌, ◌^◌, map, subst, sym, rules}
use Rattle.elmore.specs.Trees.{parent_of}
use Rattle.cand_pool.specs.Candidates.{loaded}
use Rattle.cand_turns.specs.Swaps.{at_slots, AreHeld, IsTurn}
use Rattle.cand_turns.specs.Branches.{classes_in, lists_of}
use Rattle.cand_turns.specs.Parts.{IsPart, lists_in}
use Rattle.cand_pairs.proofs.JoinLemmas.{parent_within}
use Rattle.cand_turns.proofs.PartLemmas.{dead_dead, dead_sum, dead_live, open_at_modest, open_at_as}
use Rattle.cand_turns.proofs.part.Part.take_dead.Goals as goal

pub overflow_add-result : goal.overflow_add-result
overflow_add-result g c =
    let small : c.in-Dead.own + c.args.c ≤ 10 ^ 11
    = dead_sum c.args.p.now c.args.node c.in-Dead.own c.args.c c.requires.below_root c.requires.node c.requires.dead (subst (λ part. IsPart c.args.p.now c.args.widths.now (c.args.node + 1) (parent_of c.args.p.now.tree.nodes c.args.node) c.requires.part.0 c.args.pool.now part) c.in-Dead.is c.requires.part.1) c.requires.load in
    search rules

pub load-requires-clause-held : goal.load-requires-clause-held
load-requires-clause-held g c = (c.requires.held.0, subst (λ part. AreHeld (at_slots c.args.pool.now c.requires.held.0) (lists_in part)) c.in-Live.is c.requires.held.1)

pub load-requires-clause-modest : goal.load-requires-clause-modest
load-requires-clause-modest g c =
    open_at_modest c.args.p.now c.args.widths.now c.args.node (parent_of c.args.p.now.tree.nodes c.args.node) c.requires.part.0 (λ odd. map (loaded c.args.c) (classes_in c.args.pool.now c.in-Live.branch odd)) c.requires.widths (parent_within c.args.p.now c.args.node c.requires.below_root c.requires.node)
    (dead_live c.args.p.now c.args.widths.now c.args.node c.args.c c.requires.below_root c.requires.node c.requires.dead c.requires.load c.requires.part.0 (classes_in c.args.pool.now c.in-Live.branch)
    (subst (λ part. IsPart c.args.p.now c.args.widths.now (c.args.node + 1) (parent_of c.args.p.now.tree.nodes c.args.node) c.requires.part.0 c.args.pool.now part) c.in-Live.is c.requires.part.1))

pub returns-in-Dead-clause-part : goal.returns-in-Dead-clause-part
returns-in-Dead-clause-part g c = λ ms part.
    dead_dead c.args.p.now c.args.node c.in-Dead.own c.args.c c.requires.below_root c.requires.node c.requires.dead (subst (λ part. IsPart c.args.p.now c.args.widths.now (c.args.node + 1) (parent_of c.args.p.now.tree.nodes c.args.node) ms c.args.pool.now part) c.in-Dead.is part) c.requires.load

pub returns-in-Live-clause-turn : goal.returns-in-Live-clause-turn
returns-in-Live-clause-turn g c = λ slots held.
    subst (λ part. IsTurn (at_slots c.args.pool.now slots) (lists_in part) (at_slots c.load.new.pool slots) (lists_of c.load.new.self)) (sym c.in-Live.is)
    (c.load.ensures.turn slots (subst (λ part. AreHeld (at_slots c.args.pool.now slots) (lists_in part)) c.in-Live.is held))

pub returns-in-Live-clause-part : goal.returns-in-Live-clause-part
returns-in-Live-clause-part g c = λ ms part.
    open_at_as c.args.p.now c.args.widths.now c.args.node (parent_of c.args.p.now.tree.nodes c.args.node) ms c.load.new.pool c.load.new.self (λ odd. map (loaded c.args.c) (classes_in c.args.pool.now c.in-Live.branch odd)) c.load.ensures.classes
    (dead_live c.args.p.now c.args.widths.now c.args.node c.args.c c.requires.below_root c.requires.node c.requires.dead c.requires.load ms (classes_in c.args.pool.now c.in-Live.branch) (subst (λ part. IsPart c.args.p.now c.args.widths.now (c.args.node + 1) (parent_of c.args.p.now.tree.nodes c.args.node) ms c.args.pool.now part) c.in-Live.is part))
