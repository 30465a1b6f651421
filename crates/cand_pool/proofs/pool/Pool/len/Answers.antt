use Rattle.std.proofs.Common.{◌≡◌, ◌≢◌, List, length, sym, ap, subst, arith}
use Rattle.cand_pool.specs.Links.{none, link}
use Rattle.cand_pool.specs.Candidates.{Candidate}
use Rattle.cand_pool.specs.Pools.{Block, items, items_of, IsFrom}
use Rattle.cand_pool.proofs.PoolMoves.{link_read}
use Rattle.cand_pool.proofs.PublicLaws.{held_items, held_from, none_items}
use Rattle.cand_pool.proofs.PlaceLaws.{followed, from_short}
use Rattle.cand_pool.proofs.pool.Pool.len.Goals as goal

pub links-init : goal.links-init
links-init c = record {
  from = held_from c.args.self.now c.args.list.now.ends.first c.args.list.now.ends.last (items_of c.args.self.now c.args.list.now) c.requires;
  total = omega arith;
}

pub index-slot-requires : goal.index-slot-requires
index-slot-requires c =
    let some : c.links.slot ≢ none = omega (arith, c.links-test) in
    let from = subst (λ (s : Block). IsFrom s c.links.slot (items s c.links.slot)) (sym c.self.view_is) c.links.invariant.from in
    let low = (followed _ c.links.slot _ from some).low in
    omega arith

pub overflow_add-count : goal.overflow_add-count
overflow_add-count c =
    let some : c.links.slot ≢ none = omega (arith, c.links-test) in
    let all = from_short c.args.self.now c.args.list.now.ends.first _ (held_from c.args.self.now c.args.list.now.ends.first c.args.list.now.ends.last _ c.requires) in
    let total = c.links.invariant.total in
    omega arith

pub links-smaller : goal.links-smaller
links-smaller c =
    let some : c.links.slot ≢ none = omega (arith, c.links-test) in
    let there = subst (λ (s : Block). IsFrom s c.links.slot (items s c.links.slot)) (sym c.self.view_is) c.links.invariant.from in
    let f = followed _ c.links.slot _ there some in
    let e : c.index-slot.result.now ≡ link c.self.inside.links.items c.links.slot
    = link_read c.self.inside.links.items c.links.slot c.index-slot.result.now f.low c.index-slot.ensures in
    let fewer = f.fewer in
    rw (← c.self.view_is, e) (omega arith)

pub links-preserved : goal.links-preserved
links-preserved c =
    let some : c.links.slot ≢ none = omega (arith, c.links-test) in
    let there = subst (λ (s : Block). IsFrom s c.links.slot (items s c.links.slot)) (sym c.self.view_is) c.links.invariant.from in
    let f = followed _ c.links.slot _ there some in
    let e : c.index-slot.result.now ≡ link c.self.inside.links.items c.links.slot
    = link_read c.self.inside.links.items c.links.slot c.index-slot.result.now f.low c.index-slot.ensures in
    let fewer = f.fewer in
    let total = rw (← c.self.view_is) at c.links.invariant.total in
    record { from = rw (← c.self.view_is, e) f.from; total = rw (← c.self.view_is, e) (omega arith) }

pub returns : goal.returns
returns c = λ xs h.
    let e : c.links.slot ≡ none = omega (arith, c.links-test) in
    let left = ap (λ (l : List Candidate). length l) (none_items c.args.self.now c.links.slot e h.few) in
    let n = ap (λ (l : List Candidate). length l) (held_items c.args.self.now c.args.list.now.ends.first c.args.list.now.ends.last xs h) in
    let total = c.links.invariant.total in
    omega arith
