use Rattle.vg_front.proofs.TwoLemmas.{second_held, both_given, both_same}
use Rattle.vg_front.proofs.branch.Branch.prune.Goals as goal

pub prune-requires-2 : goal.prune-requires-2
prune-requires-2 c = record {
  held = second_held c.args.arena.now c.prune.new.arena c.args.self.now.even.items c.prune.new.list.items c.args.self.now.odd.items c.requires.held
      c.prune.ensures.uses;
}

pub returns-clause-given : goal.returns-clause-given
returns-clause-given c =
    both_given c.args.arena.now c.prune.new.arena c.args.self.now.even.items c.prune.new.list.items c.args.self.now.odd.items c.requires.held
    c.prune.ensures.uses
    c.prune-2.new.arena c.prune-2.new.list.items c.prune-2.ensures.uses

pub returns-clause-same : goal.returns-clause-same
returns-clause-same c =
    both_same c.args.arena.now c.prune.new.arena c.args.self.now.even.items c.prune.new.list.items c.args.self.now.odd.items c.requires.held
    c.prune.ensures.uses
    c.prune-2.new.arena c.prune-2.new.list.items c.prune-2.ensures.uses c.prune.ensures.same c.prune-2.ensures.same c.prune-2.ensures.pruned.part
