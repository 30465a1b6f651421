use Rattle.std.proofs.Common.{◌+◌, subst}
use Rattle.cand_pairs.specs.Candidates.{of_lists}
use Rattle.cand_pairs.specs.Parts.{list_of}
use Rattle.cand_pairs.proofs.TurnLemmas.{part_is_dead, part_is_live, part_load}
use Rattle.vg_cert.specs.Fits.{lists_in}
use Rattle.vg_check.specs.Parts.{IsPart}
use Rattle.vg_check.proofs.part.Part.take.Goals as goal

pub take_dead-requires-clause-dead : goal.take_dead-requires-clause-dead
take_dead-requires-clause-dead c =
    part_is_dead c.args.p.now c.args.node c.in-Dead.c c.requires.node
    (subst (IsPart c.args.p.now (lists_in c.args.lists.now) (c.args.node + 1) c.args.node) c.in-Dead.is c.requires.whole)

pub take_dead-requires-clause-load : goal.take_dead-requires-clause-load
take_dead-requires-clause-load c =
    part_load c.args.p.now c.args.node c.in-Dead.c c.requires.node
    (subst (IsPart c.args.p.now (lists_in c.args.lists.now) (c.args.node + 1) c.args.node) c.in-Dead.is c.requires.whole)

pub take_live-requires-clause-live : goal.take_live-requires-clause-live
take_live-requires-clause-live c =
    part_is_live c.args.p.now (of_lists (lists_in c.args.lists.now)) c.args.node (list_of c.in-Live.joins) c.requires.node
    (subst (IsPart c.args.p.now (lists_in c.args.lists.now) (c.args.node + 1) c.args.node) c.in-Live.is c.requires.whole)

pub returns-in-Dead : goal.returns-in-Dead
returns-in-Dead c = c.take_dead.ensures (lists_in c.args.lists.now) c.requires.upper
