use Rattle.cand_pool.proofs.PublicLaws.{held_named}
use Rattle.bench_lists.proofs.lists.show.Goals as goal

pub len-requires : goal.len-requires
len-requires g c = let (s, applied) = c.change-size.ensures.applied in held_named _ _ _ _ applied.left

pub sum_up-requires : goal.sum_up-requires
sum_up-requires g c = let (s, applied) = c.change-size.ensures.applied in held_named _ _ _ _ applied.left
