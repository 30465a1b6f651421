use Rattle.std.proofs.Common.{◌≡◌, ℕ, suc, ◌<◌, List, [], ◌∷◌, ◌++◌, length, ap, ◌∙◌, arith}
use Rattle.cand_pool.specs.Links.{none}
use Rattle.cand_pool.specs.declared.numbers.Numbers.{Numbers}
use Rattle.cand_pool.specs.Pools.{Block, blank, IsPool}
use Rattle.cand_pool.specs.Moves.{IsGrown}
use Rattle.cand_pool.proofs.PoolSlots.{grow, padded, grown_freed}
use Rattle.cand_pool.proofs.PublicLaws.{one_held}
use Rattle.cand_pool.proofs.pool.Pool.grow.Goals as goal

-- the block after the pushes
pushed : (s : Block) (links : List ℕ) (candidates : List Numbers) → links ≡ s.links ++ none ∷ [] → candidates ≡ s.candidates ++ blank ∷ []
    → IsPool s → length s.links < none → IsGrown s (record { links = links; candidates = candidates; free = s.free })
pushed s links candidates a b pool room = rw (a, b) (grow s pool room)

pub returns-in_err-push-2-clause-others : goal.returns-in_err-push-2-clause-others
returns-in_err-push-2-clause-others c =
    rw (← c.self.view_is, c.in_err-push-2.ensures.items, c.in_ok-push.ensures.items) (padded _ c.self.invariant.pool)

pub invariant_of-self-2 : goal.invariant_of-self-2
invariant_of-self-2 c =
    let room : length c.self.inside.links.items < none = omega arith in
    let at = pushed _ _ _ c.in_ok-push-2.ensures.items c.in_ok-push.ensures.items c.self.invariant.pool room in
    record { pool = at.pool; free = omega (arith, at.free, c.self.invariant.free) }

pub give-requires : goal.give-requires
give-requires c =
    let room : length c.self.inside.links.items < none = omega arith in
    let slot : c.len-slot.result ≡ length c.self.inside.links.items = omega arith in
    rw slot (one_held _ _ _ _ (pushed _ _ _ c.in_ok-push-2.ensures.items c.in_ok-push.ensures.items c.self.invariant.pool room).one)

pub returns-clause-others : goal.returns-clause-others
returns-clause-others c =
    let room : length c.self.inside.links.items < none = omega arith in
    let slot : c.len-slot.result ≡ length c.self.inside.links.items = omega arith in
    rw (← c.self.view_is) (grown_freed _ _ _ c.len-slot.result (pushed _ _ _ c.in_ok-push-2.ensures.items c.in_ok-push.ensures.items c.self.invariant.pool room) slot c.give.ensures)

pub returns-clause-spare : goal.returns-clause-spare
returns-clause-spare c =
    let room : length c.self.inside.links.items < none = omega arith in
    let g = pushed _ _ _ c.in_ok-push-2.ensures.items c.in_ok-push.ensures.items c.self.invariant.pool room in
    rw (← c.self.view_is) (c.give.ensures.free ∙ ap (λ (n : ℕ). suc n) g.free)
