use Rattle.std.proofs.Common.{◌≡◌, ◌≢◌, ℕ, ◌<◌, length, sym, subst, arith, get_or}
use Rattle.cand_pool.specs.Links.{none, link}
use Rattle.cand_pool.specs.Pools.{Block, slots_of, spare, IsPool}
use Rattle.cand_pool.specs.Moves.{IsDrawn, relinked}
use Rattle.cand_pool.proofs.PoolLaws.{some_low}
use Rattle.cand_pool.proofs.PoolMoves.{spare_some, draw, link_read}
use Rattle.cand_pool.proofs.pool.Pool.draw.Goals as goal

drawn : (s : Block) (r : ℕ) → IsPool s → 0 < spare s → r ≡ get_or s.links s.free r → IsDrawn s (relinked s s.free none r)
drawn s r pool room read =
    let some : s.free ≢ none = spare_some s pool room in
    let low : s.free < length s.links = some_low (link s.links) (length s.links) s.free (slots_of s s.free) some pool.free.chain in
    rw (link_read s.links s.free r low read) (draw s pool some)

pub invariant_of-self : goal.invariant_of-self
invariant_of-self c =
    let room = subst (λ (s : Block). 0 < spare s) (sym c.self.view_is) c.requires in
    let at = drawn _ c.index.result.now c.self.invariant.pool room c.index.ensures in
    record { pool = at.pool; free = omega (arith, at.free, c.self.invariant.free, c.saturating_sub-self-inside.ensures) }

pub returns-clause-drawn : goal.returns-clause-drawn
returns-clause-drawn c =
    let room = subst (λ (s : Block). 0 < spare s) (sym c.self.view_is) c.requires in
    rw (← c.self.view_is) (drawn _ c.index.result.now c.self.invariant.pool room c.index.ensures)
