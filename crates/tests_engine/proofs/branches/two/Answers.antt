use Rattle.std.proofs.Common.{[], ◌∷◌, inl, lit<, lit≤}
use Rattle.cand_pool.specs.Pools.{name}
use Rattle.cand_pool.proofs.PoolMoves.{keeps_then}
use Rattle.cand_pool.proofs.PublicLaws.{held_named}
use Rattle.tests_engine.proofs.ReadyLaws.{two_ready}
use Rattle.tests_engine.proofs.branches.two.Goals as goal

pub push-requires-clause-live : goal.push-requires-clause-live
push-requires-clause-live c = held_named _ _ _ _ c.one-list.ensures.list

pub returns-clause-ready : goal.returns-clause-ready
returns-clause-ready c = two_ready _ c.push.new.list 5 1 9 4 (lit< tt) (lit< tt) (lit≤ tt) (lit≤ tt) (c.push.ensures.list _ c.one-list.ensures.list)

pub returns-clause-others : goal.returns-clause-others
returns-clause-others c =
    keeps_then _ _ _ [] (name c.one-list.result ∷ []) (name c.one-list.result ∷ []) (name c.push.new.list ∷ []) (name c.push.new.list ∷ []) c.one-list.ensures.others c.push.ensures.others (λ k m. m) (λ k m. inl m)
