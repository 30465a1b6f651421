use Rattle.std.proofs.Common.{◌++◌, sym, subst, List}
use Rattle.sol_arena.specs.Arenas.{made_of}
use Rattle.vg_front.specs.declared.offer.Proposal.{Proposal}
use Rattle.vg_front.specs.Making.{AreFrom, AreMadeOf}
use Rattle.vg_front.proofs.JoinLemmas.{met_from}
use Rattle.vg_front.proofs.join.meet_all.Goals as goal

pub make_all-requires : goal.make_all-requires
make_all-requires c = record {
  from = (
    c.args.xs.now ++ c.args.ys.now,
    c.requires.held,
    subst (AreFrom (made_of c.args.arena.now) (c.args.xs.now ++ c.args.ys.now)) (sym c.deref.ensures.value)
        (met_from c.args.cap (made_of c.args.arena.now) c.args.xs.now c.args.ys.now c.meet_lists.new.desk.made.items c.requires.apart
        c.in_ok-meet_lists.ensures),
  );
}

pub returns-clause-met : goal.returns-clause-met
returns-clause-met c = record {
  proposals = c.meet_lists.new.desk.made.items;
  part = c.in_ok-meet_lists.ensures;
  made = subst (λ (ps : List Proposal). AreMadeOf (made_of c.args.arena.now) (made_of c.make_all.new.arena) ps c.in_ok-met.met.items)
      c.deref.ensures.value c.in_ok-met.ensures.all;
}
