use Rattle.std.proofs.Common.{[], ◌∷◌, sym, subst, arith}
use Rattle.cand_pool.specs.Pools.{Block, candidate, IsHeld}
use Rattle.cand_pool.proofs.PoolSlots.{give, one_slot}
use Rattle.cand_pool.proofs.pool.Pool.give.Goals as goal

pub index_mut-requires : goal.index_mut-requires
index_mut-requires c =
    let held = subst (λ (s : Block). IsHeld s c.args.slot c.args.slot (candidate s c.args.slot ∷ [])) (sym c.self.view_is) c.requires in
    let low = (one_slot _ c.args.slot c.args.slot _ held).low in
    omega arith

pub invariant_of-self : goal.invariant_of-self
invariant_of-self c =
    let held = subst (λ (s : Block). IsHeld s c.args.slot c.args.slot (candidate s c.args.slot ∷ [])) (sym c.self.view_is) c.requires in
    let at = give _ c.args.slot c.args.slot _ c.self.invariant.pool held in
    record { pool = at.pool; free = omega (arith, at.free, c.self.invariant.free, c.saturating_add-self-inside.ensures) }

pub returns : goal.returns
returns c =
    let held = subst (λ (s : Block). IsHeld s c.args.slot c.args.slot (candidate s c.args.slot ∷ [])) (sym c.self.view_is) c.requires in
    rw (← c.self.view_is) (give _ c.args.slot c.args.slot _ c.self.invariant.pool held)
