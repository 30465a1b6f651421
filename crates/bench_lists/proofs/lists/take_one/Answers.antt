use Rattle.cand_pool.proofs.PublicLaws.{held_named}
use Rattle.bench_lists.proofs.TurnLaws.{tag_there}
use Rattle.bench_lists.proofs.lists.take_one.Goals as goal

pub take-requires : goal.take-requires
take-requires c = let (x, xs, held) = c.requires in held_named _ _ _ _ held

pub unwrap-requires : goal.unwrap-requires
unwrap-requires c = tag_there _ _ c.args.bag.now c.take.new.bag c.take.result c.requires c.take.ensures.none

pub returns-clause-taken : goal.returns-clause-taken
returns-clause-taken c = λ x xs h. (c.take.ensures.some c.unwrap.result c.unwrap.ensures x xs h).1
