use Rattle.cand_pool.proofs.PublicLaws.{held_named}
use Rattle.tests_engine.proofs.RowLaws.{beside_given, given_spare}
use Rattle.tests_engine.proofs.pools.give_up.Goals as goal

pub take_all-dropped-requires : goal.take_all-dropped-requires
take_all-dropped-requires c =
    held_named _ _ _ _ (beside_given _ _ _ c.args.list c.discard-rest.result c.args.bag c.requires.gone c.requires.differ c.discard-rest.ensures.same c.discard-rest.ensures.bag c.take_all-kept.ensures.others)

pub returns : goal.returns
returns c =
    let beside = beside_given _ _ _ c.args.list c.discard-rest.result c.args.bag c.requires.gone c.requires.differ c.discard-rest.ensures.same c.discard-rest.ensures.bag c.take_all-kept.ensures.others in
    given_spare c.args.pool.now c.discard-rest.new.self c.take_all-kept.new.pool c.take_all-dropped.new.pool c.args.list c.discard-rest.result c.args.bag c.requires.left beside c.discard-rest.ensures.same c.discard-rest.ensures.held c.take_all-kept.ensures.spare c.take_all-dropped.ensures.spare
