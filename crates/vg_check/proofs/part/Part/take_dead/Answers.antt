use Rattle.std.proofs.Common.{◌+◌, ◌≤◌, ◌^◌, subst, rules}
use Rattle.elmore.specs.Trees.{parent_of}
use Rattle.cand_pairs.specs.Parts.{list_of}
use Rattle.cand_pairs.proofs.JoinLemmas.{parent_within}
use Rattle.vg_check.specs.Parts.{IsPart}
use Rattle.vg_check.proofs.PartLemmas.{dead_load_small, live_takes_dead, part_worked, sum_small, takes_dead}
use Rattle.vg_check.proofs.part.Part.take_dead.Goals as goal

pub overflow_add-result : goal.overflow_add-result
overflow_add-result c =
    let (lists, all, part) = c.requires.upper in
    let small : c.in-Dead.own + c.args.c ≤ 10 ^ 11
    = sum_small c.args.p.now c.args.node c.requires.below_root c.requires.node c.requires.dead c.args.c c.requires.load c.in-Dead.own
    (subst (IsPart c.args.p.now lists (c.args.node + 1) (parent_of c.args.p.now.tree.nodes c.args.node)) c.in-Dead.is part) in
    search rules

pub load-requires-clause-load : goal.load-requires-clause-load
load-requires-clause-load c =
    dead_load_small c.args.p.now c.args.node c.requires.below_root c.requires.node c.requires.dead c.args.c c.requires.load

pub load-requires-clause-classes : goal.load-requires-clause-classes
load-requires-clause-classes c =
    let (lists, all, part) = c.requires.upper in
    part_worked c.args.p.now lists all (parent_of c.args.p.now.tree.nodes c.args.node) (c.args.node + 1)
    (parent_within c.args.p.now c.args.node c.requires.below_root c.requires.node) (list_of c.in-Live.joins)
    (subst (IsPart c.args.p.now lists (c.args.node + 1) (parent_of c.args.p.now.tree.nodes c.args.node)) c.in-Live.is part)

pub returns-in-Dead : goal.returns-in-Dead
returns-in-Dead c = λ lists part.
    takes_dead c.args.p.now c.args.node c.requires.below_root c.requires.node c.requires.dead c.args.c c.requires.load c.in-Dead.own
    (subst (IsPart c.args.p.now lists (c.args.node + 1) (parent_of c.args.p.now.tree.nodes c.args.node)) c.in-Dead.is part)

pub returns-in-Live : goal.returns-in-Live
returns-in-Live c = λ lists part.
    live_takes_dead c.args.p.now c.args.node c.requires.below_root c.requires.node c.requires.dead c.args.c c.requires.load lists
    (list_of c.in-Live.joins) _
    (subst (IsPart c.args.p.now lists (c.args.node + 1) (parent_of c.args.p.now.tree.nodes c.args.node)) c.in-Live.is part)
    c.load.ensures
