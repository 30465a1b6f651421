use Rattle.std.proofs.Common.{sym, subst, List}
use Rattle.sol_arena.specs.Arenas.{made_of}
use Rattle.vg_front.specs.Branches.{list_of, all_of}
use Rattle.vg_front.specs.declared.offer.Proposal.{Proposal}
use Rattle.vg_front.specs.Making.{AreFrom, AreMadeOf}
use Rattle.vg_front.proofs.FrontLemmas.{cells_are}
use Rattle.vg_front.proofs.PlaceLemmas.{place_from, place_solved}
use Rattle.vg_front.proofs.branch.Branch.cells.Goals as goal

pub make_all-requires : goal.make_all-requires
make_all-requires c = record {
  from = (
    all_of c.args.self.now,
    c.requires.held,
    subst (AreFrom (made_of c.args.arena.now) (all_of c.args.self.now)) (sym c.deref.ensures.value)
        (place_from c.args.p.now c.args.cap c.args.node c.args.odd c.args.self.now (made_of c.args.arena.now)
        c.propose_cells.new.desk.made.items c.requires.solved c.in_ok-propose_cells.ensures),
  );
}

pub returns-clause-cells : goal.returns-clause-cells
returns-clause-cells c =
    cells_are c.args.p.now c.args.cap c.args.node c.args.odd (list_of c.args.self.now) c.requires.place (made_of c.args.arena.now)
    (made_of c.make_all.new.arena)
    c.propose_cells.new.desk.made.items c.in_ok-cells.cells.items c.in_ok-propose_cells.ensures
    (subst (λ (ps : List Proposal). AreMadeOf (made_of c.args.arena.now) (made_of c.make_all.new.arena) ps c.in_ok-cells.cells.items) c.deref.ensures.value
    c.in_ok-cells.ensures.all)

pub returns-clause-solved : goal.returns-clause-solved
returns-clause-solved c =
    place_solved c.args.p.now c.args.cap c.args.node c.args.odd c.args.self.now (made_of c.args.arena.now) c.propose_cells.new.desk.made.items
    c.requires.solved
    c.in_ok-propose_cells.ensures (made_of c.make_all.new.arena) c.in_ok-cells.cells.items c.requires.node c.requires.place
    (subst (λ (ps : List Proposal). AreMadeOf (made_of c.args.arena.now) (made_of c.make_all.new.arena) ps c.in_ok-cells.cells.items) c.deref.ensures.value
    c.in_ok-cells.ensures.all)
