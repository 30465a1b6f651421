use Rattle.std.proofs.Common.{◌+◌, ◌≤◌, ◌^◌, map, subst, sym, rules}
use Rattle.elmore.specs.Trees.{parent_of}
use Rattle.cand_pairs.proofs.JoinLemmas.{parent_within}
use Rattle.vg_front.specs.declared.part.Part.{Part}
use Rattle.vg_front.specs.Branches.{list_of, all_of}
use Rattle.vg_front.specs.Held.{IsGiven, carried_by}
use Rattle.vg_front.specs.Parts.{IsPart, held_in}
use Rattle.vg_front.proofs.BoundLemmas.{open_bounded}
use Rattle.vg_front.proofs.PartLemmas.{dead_dead, dead_sum, dead_small, dead_live, open_as, branch_given}
use Rattle.vg_front.proofs.part.Part.take_dead.Goals as goal

pub overflow_add-result : goal.overflow_add-result
overflow_add-result c =
    let small : c.in-Dead.own + c.args.c ≤ 10 ^ 11
    = dead_sum c.args.p.now c.args.node c.in-Dead.own c.args.c c.requires.below_root c.requires.node c.requires.dead
    (subst (λ (part : Part). IsPart c.args.p.now c.requires.upper.1 (c.args.node + 1) (parent_of c.args.p.now.tree.nodes c.args.node) c.requires.upper.0
    part) c.in-Dead.is c.requires.upper.2)
    c.requires.load in
    search rules

pub load-requires-clause-load : goal.load-requires-clause-load
load-requires-clause-load c = dead_small c.args.p.now c.args.node c.args.c c.requires.below_root c.requires.node c.requires.dead c.requires.load

pub load-requires-clause-bounded : goal.load-requires-clause-bounded
load-requires-clause-bounded c =
    open_bounded c.args.p.now c.requires.upper.1 (c.args.node + 1) (parent_of c.args.p.now.tree.nodes c.args.node) c.requires.upper.0
    (list_of c.in-Live.branch)
    (parent_within c.args.p.now c.args.node c.requires.below_root c.requires.node)
    (subst (λ (part : Part). IsPart c.args.p.now c.requires.upper.1 (c.args.node + 1) (parent_of c.args.p.now.tree.nodes c.args.node) c.requires.upper.0
    part) c.in-Live.is c.requires.upper.2)

pub returns-in-Dead-clause-part : goal.returns-in-Dead-clause-part
returns-in-Dead-clause-part c = λ ms cap part.
    dead_dead c.args.p.now c.args.node c.in-Dead.own c.args.c c.requires.below_root c.requires.node c.requires.dead
    (subst (λ (t : Part). IsPart c.args.p.now cap (c.args.node + 1) (parent_of c.args.p.now.tree.nodes c.args.node) ms t) c.in-Dead.is part) c.requires.load

pub returns-in-Live-clause-given : goal.returns-in-Live-clause-given
returns-in-Live-clause-given c = λ slots held.
    subst (λ (t : Part). IsGiven slots (held_in t) slots (all_of c.load.new.self)) (sym c.in-Live.is)
    (branch_given slots 0 c.args.c c.in-Live.branch c.load.new.self c.load.ensures)

pub returns-in-Live-clause-part : goal.returns-in-Live-clause-part
returns-in-Live-clause-part c = λ ms cap part.
    open_as c.args.p.now cap c.args.node (parent_of c.args.p.now.tree.nodes c.args.node) ms
    (λ odd. map (carried_by 0 c.args.c) (list_of c.in-Live.branch odd)) (list_of c.load.new.self)
    c.load.ensures
    (dead_live c.args.p.now cap c.args.node c.args.c c.requires.below_root c.requires.node c.requires.dead c.requires.load ms (list_of c.in-Live.branch)
    (subst (λ (t : Part). IsPart c.args.p.now cap (c.args.node + 1) (parent_of c.args.p.now.tree.nodes c.args.node) ms t) c.in-Live.is part))
