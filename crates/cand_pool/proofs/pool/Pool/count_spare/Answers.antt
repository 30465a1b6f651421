use Rattle.std.proofs.Common.{◌≡◌, ◌≢◌, sym, subst, arith}
use Rattle.cand_pool.specs.Links.{none, link}
use Rattle.cand_pool.specs.Pools.{Block, items, IsFrom}
use Rattle.cand_pool.proofs.PoolMoves.{link_read}
use Rattle.cand_pool.proofs.PlaceLaws.{followed}
use Rattle.cand_pool.proofs.pool.Pool.count_spare.Goals as goal

pub free-smaller : goal.free-smaller
free-smaller c =
    let some : c.free.slot ≢ none = omega (arith, c.if-slot) in
    let there = subst (λ (s : Block). IsFrom s c.free.slot (items s c.free.slot)) (sym c.self.view_is) c.free.invariant.from in
    let f = followed _ c.free.slot _ there some in
    let e : c.index-slot.result.now ≡ link c.self.inside.links.items c.free.slot = link_read c.self.inside.links.items c.free.slot c.index-slot.result.now f.low c.index-slot.ensures in
    let fewer = f.fewer in
    rw (← c.self.view_is, e) (omega arith)

pub free-preserved : goal.free-preserved
free-preserved c =
    let some : c.free.slot ≢ none = omega (arith, c.if-slot) in
    let there = subst (λ (s : Block). IsFrom s c.free.slot (items s c.free.slot)) (sym c.self.view_is) c.free.invariant.from in
    let f = followed _ c.free.slot _ there some in
    let e : c.index-slot.result.now ≡ link c.self.inside.links.items c.free.slot = link_read c.self.inside.links.items c.free.slot c.index-slot.result.now f.low c.index-slot.ensures in
    let fewer = f.fewer in
    let total = rw (← c.self.view_is) at c.free.invariant.total in
    record { from = rw (← c.self.view_is, e) f.from; total = rw (← c.self.view_is, e) (omega arith); most = omega arith }
