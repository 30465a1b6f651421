use Rattle.std.proofs.Common.{lit≤}
use Rattle.bench_lists.proofs.Lengths.{small_loaded}
use Rattle.bench_lists.proofs.OperationLaws.{loaded_applied}
use Rattle.bench_lists.proofs.lists.load.Goals as goal

pub load-requires-clause-modest : goal.load-requires-clause-modest
load-requires-clause-modest g c = small_loaded 1000 _ (lit≤ tt) c.requires.made.0.1

pub returns : goal.returns
returns g c =
    loaded_applied 1000 _ _ _ c.args.list.now c.load.new.list c.args.other c.discard.result c.requires.made.0.0 c.requires.made.1.0 c.requires.differ c.load.ensures.list c.load.ensures.same c.load.ensures.others
    c.load.ensures.spare c.discard.ensures.same c.discard.ensures.bag c.discard.ensures.held
