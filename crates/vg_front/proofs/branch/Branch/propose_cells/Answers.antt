use Rattle.std.proofs.Common.{true, false}
use Rattle.vg_front.specs.Branches.{list_of}
use Rattle.vg_front.specs.Driving.{IsCelled}
use Rattle.vg_front.proofs.CellLemmas.{celled_all}
use Rattle.vg_front.proofs.OfferLemmas.{part_settled}
use Rattle.vg_front.proofs.branch.Branch.propose_cells.Goals as goal

pub propose_behind-requires-clause-bounded : goal.propose_behind-requires-clause-bounded
propose_behind-requires-clause-bounded c = c.requires.bounded false

pub propose_behind-requires-2-clause-bounded : goal.propose_behind-requires-2-clause-bounded
propose_behind-requires-2-clause-bounded c = c.requires.bounded true

pub returns : goal.returns
returns c =
    part_settled (IsCelled c.args.p.now c.args.node c.args.odd c.args.cap (list_of c.args.self.now)) c.clear.new.self.made.items
    c.propose_behind-2.new.fresh.items c.settle.new.self.made.items c.clear.ensures.none
    (celled_all c.args.p.now c.args.node c.args.odd c.args.cap (list_of c.args.self.now) c.clear.new.self.fresh.items c.propose_behind.new.fresh.items
    c.propose_behind-2.new.fresh.items c.clear.ensures.fresh c.in_ok-propose_behind.ensures c.in_ok-propose_behind-2.ensures)
    c.in_ok-settle.ensures.kept
