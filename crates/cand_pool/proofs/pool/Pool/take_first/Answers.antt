use Rattle.std.proofs.Common.{◌≡◌, ◌∷◌, sym, subst}
use Rattle.cand_pool.specs.Links.{link}
use Rattle.cand_pool.specs.Pools.{Block, IsHeld}
use Rattle.cand_pool.specs.Moves.{IsFirst}
use Rattle.cand_pool.proofs.PoolLaws.{take}
use Rattle.cand_pool.proofs.PoolMoves.{live_sure, live_low, held_live, link_read}
use Rattle.cand_pool.proofs.pool.Pool.take_first.Goals as goal

pub invariant_of-self : goal.invariant_of-self
invariant_of-self c =
    let live : IsFirst _ c.args.first = subst (λ (s : Block). IsFirst s c.args.first) (sym c.self.view_is) c.requires.live in
    live_sure _ c.self.inside.sure c.args.first c.self.invariant live c.requires.some

pub returns : goal.returns
returns c = record {
  taken = λ last x xs h.
      let held = subst (λ (s : Block). IsHeld s c.args.first last (x ∷ xs)) (sym c.self.view_is) h in
      let low = live_low _ c.args.first (held_live _ c.args.first last (x ∷ xs) held) c.requires.some in
      let e : c.index-rest.result.now ≡ link c.self.inside.links.items c.args.first = link_read c.self.inside.links.items c.args.first c.index-rest.result.now low c.index-rest.ensures in
      rw (← c.self.view_is, e) (take _ c.args.first last x xs c.self.invariant.pool held);
}
