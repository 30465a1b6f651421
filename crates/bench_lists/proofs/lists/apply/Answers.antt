use Rattle.bench_lists.proofs.OperationLaws.{united_applied}
use Rattle.bench_lists.proofs.lists.apply.Goals as goal

pub returns-in-Absorb : goal.returns-in-Absorb
returns-in-Absorb g c =
    united_applied _ _ c.args.list.now c.absorb.new.list c.args.other c.absorb.result c.requires.made.0.0 c.requires.made.1.0 c.absorb.ensures.list c.absorb.ensures.bag c.absorb.ensures.differ c.absorb.ensures.spare

pub absorb-requires-clause-rises_list : goal.absorb-requires-clause-rises_list
absorb-requires-clause-rises_list g c = c.requires.rises.0

pub absorb-requires-clause-rises_other : goal.absorb-requires-clause-rises_other
absorb-requires-clause-rises_other g c = c.requires.rises.1
