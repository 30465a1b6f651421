use Rattle.std.proofs.Common.{◌≡◌, ◌≢◌, ◌∷◌, sym, ◌∙◌, subst, arith}
use Rattle.cand_pool.specs.Links.{none, link}
use Rattle.cand_pool.specs.Pools.{Block, IsPlaceAt}
use Rattle.cand_pool.proofs.PoolMoves.{link_read}
use Rattle.cand_pool.proofs.PublicLaws.{next_place, place_low, from_none, from_some}
use Rattle.cand_pool.proofs.pool.Pool.next.Goals as goal

pub index-slot-requires : goal.index-slot-requires
index-slot-requires c =
    let (xs, place) = c.requires in
    let low = place_low _ c.args.cand.slot xs (subst (λ (s : Block). IsPlaceAt s c.args.cand.slot xs) (sym c.self.view_is) place) in
    omega arith

pub returns-then-slot : goal.returns-then-slot
returns-then-slot c = λ x xs place.
    let there = subst (λ (s : Block). IsPlaceAt s c.args.cand.slot (x ∷ xs)) (sym c.self.view_is) place in
    let low = place_low _ c.args.cand.slot (x ∷ xs) there in
    let e : c.index-slot.result.now ≡ link c.self.inside.links.items c.args.cand.slot = link_read c.self.inside.links.items c.args.cand.slot c.index-slot.result.now low c.index-slot.ensures in
    let z : link c.self.inside.links.items c.args.cand.slot ≡ none = sym e ∙ omega (arith, c.if-slot) in
    from_none _ (link c.self.inside.links.items c.args.cand.slot) xs z (next_place _ c.args.cand.slot x xs there)

pub returns-else-slot : goal.returns-else-slot
returns-else-slot c = λ x xs place.
    let there = subst (λ (s : Block). IsPlaceAt s c.args.cand.slot (x ∷ xs)) (sym c.self.view_is) place in
    let low = place_low _ c.args.cand.slot (x ∷ xs) there in
    let e : c.index-slot.result.now ≡ link c.self.inside.links.items c.args.cand.slot = link_read c.self.inside.links.items c.args.cand.slot c.index-slot.result.now low c.index-slot.ensures in
    let some : c.index-slot.result.now ≢ none = omega (arith, c.if-slot) in
    from_some c.args.self.now c.index-slot.result.now xs some (rw (← c.self.view_is, e) (next_place _ c.args.cand.slot x xs there))
