use Rattle.vg_front.proofs.SeenLemmas.{moved_last}
use Rattle.vg_front.proofs.stairs.move_last.Goals as goal

pub returns-clause-moved : goal.returns-clause-moved
returns-clause-moved c =
    moved_last c.args.from.now.items c.pop.new.self.items c.args.to.now.items c.keep.new.stairs.items c.in-Some.stair c.in-Some.ensures.items
    c.keep.ensures
