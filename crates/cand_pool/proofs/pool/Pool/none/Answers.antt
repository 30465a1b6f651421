use Rattle.std.proofs.Common.{[], refl, subst}
use Rattle.cand_pool.specs.Links.{none}
use Rattle.cand_pool.specs.Pools.{Block, IsHeld}
use Rattle.cand_pool.proofs.PublicLaws.{empty_held}
use Rattle.cand_pool.proofs.pool.Pool.none.Goals as goal

pub returns-clause-list : goal.returns-clause-list
returns-clause-list c = subst (λ (s : Block). IsHeld s none none []) c.self.view_is (empty_held _ none none c.self.invariant.pool.block.few refl)
