use Rattle.std.proofs.Common.{◌+◌, Bool, List, arith, subst}
use Rattle.elmore.specs.Trees.{parent_of}
use Rattle.elmore.specs.declared.pair.Pair.{Pair}
use Rattle.cand_pairs.specs.Parts.{list_of}
use Rattle.cand_pairs.proofs.JoinLemmas.{parent_within}
use Rattle.vg_cert.specs.Fits.{IsList, lists_in}
use Rattle.vg_check.specs.Parts.{IsPart}
use Rattle.vg_check.proofs.PartLemmas.{above_here, above_worked, dead_small, dead_takes_live, lists_here, live_takes_live, part_worked}
use Rattle.vg_check.proofs.part.Part.take_live.Goals as goal

pub above_wire-requires-clause-lists : goal.above_wire-requires-clause-lists
above_wire-requires-clause-lists c =
    subst (λ (lists : Bool → List Pair). (odd : Bool) → IsList (lists odd))
    (lists_here c.args.lists.now c.args.node c.index-lists-node.result (omega (arith, c.requires.node, c.requires.one_each)) c.index-lists-node.is)
    (c.requires.lists c.args.node)

pub load-requires-clause-load : goal.load-requires-clause-load
load-requires-clause-load c =
    let small =
    dead_small c.args.p.now (lists_in c.args.lists.now) c.requires.lists (parent_of c.args.p.now.tree.nodes c.args.node) (c.args.node + 1)
    (parent_within c.args.p.now c.args.node c.requires.below_root c.requires.node) c.in-Dead.c
    (subst (IsPart c.args.p.now (lists_in c.args.lists.now) (c.args.node + 1) (parent_of c.args.p.now.tree.nodes c.args.node))
    c.in-Dead.is c.requires.upper) in
    omega (arith, small)

pub load-requires-clause-classes : goal.load-requires-clause-classes
load-requires-clause-classes c =
    above_worked c.args.p.now c.args.node c.requires.below_root c.requires.node c.requires.live (lists_in c.args.lists.now) c.requires.lists
    c.resistance_of.result c.resistance_of.ensures (list_of c.in_ok-above.above)
    (above_here c.args.lists.now c.args.node c.index-lists-node.result c.resistance_of.result (list_of c.in_ok-above.above)
    (omega (arith, c.requires.node, c.requires.one_each)) c.index-lists-node.is c.in_ok-above.ensures)

pub meet-requires-clause-xs : goal.meet-requires-clause-xs
meet-requires-clause-xs c =
    part_worked c.args.p.now (lists_in c.args.lists.now) c.requires.lists (parent_of c.args.p.now.tree.nodes c.args.node) (c.args.node + 1)
    (parent_within c.args.p.now c.args.node c.requires.below_root c.requires.node) (list_of c.in-Live.joins)
    (subst (IsPart c.args.p.now (lists_in c.args.lists.now) (c.args.node + 1) (parent_of c.args.p.now.tree.nodes c.args.node))
    c.in-Live.is c.requires.upper)

pub meet-requires-clause-ys : goal.meet-requires-clause-ys
meet-requires-clause-ys c =
    above_worked c.args.p.now c.args.node c.requires.below_root c.requires.node c.requires.live (lists_in c.args.lists.now) c.requires.lists
    c.resistance_of.result c.resistance_of.ensures (list_of c.in_ok-above.above)
    (above_here c.args.lists.now c.args.node c.index-lists-node.result c.resistance_of.result (list_of c.in_ok-above.above)
    (omega (arith, c.requires.node, c.requires.one_each)) c.index-lists-node.is c.in_ok-above.ensures)

pub returns-in-Dead : goal.returns-in-Dead
returns-in-Dead c =
    dead_takes_live c.args.p.now c.args.node c.requires.below_root c.requires.node c.requires.live (lists_in c.args.lists.now) c.requires.lists
    c.resistance_of.result c.resistance_of.ensures (list_of c.in_ok-above.above)
    (above_here c.args.lists.now c.args.node c.index-lists-node.result c.resistance_of.result (list_of c.in_ok-above.above)
    (omega (arith, c.requires.node, c.requires.one_each)) c.index-lists-node.is c.in_ok-above.ensures)
    c.in-Dead.c (list_of c.load.new.classes)
    (subst (IsPart c.args.p.now (lists_in c.args.lists.now) (c.args.node + 1) (parent_of c.args.p.now.tree.nodes c.args.node))
    c.in-Dead.is c.requires.upper)
    c.load.ensures

pub returns-in_ok-both-in-Live : goal.returns-in_ok-both-in-Live
returns-in_ok-both-in-Live c =
    live_takes_live c.args.p.now c.args.node c.requires.below_root c.requires.node c.requires.live (lists_in c.args.lists.now) c.requires.lists
    c.resistance_of.result c.resistance_of.ensures (list_of c.in_ok-above.above)
    (above_here c.args.lists.now c.args.node c.index-lists-node.result c.resistance_of.result (list_of c.in_ok-above.above)
    (omega (arith, c.requires.node, c.requires.one_each)) c.index-lists-node.is c.in_ok-above.ensures)
    (list_of c.in-Live.joins) (list_of c.in_ok-both-in-Live.both)
    (subst (IsPart c.args.p.now (lists_in c.args.lists.now) (c.args.node + 1) (parent_of c.args.p.now.tree.nodes c.args.node))
    c.in-Live.is c.requires.upper)
    c.in_ok-both-in-Live.ensures
