use Rattle.std.proofs.Common.{rules, [], ◌∷◌, sym, ap, ◌∙◌, subst, arith, to_z-of_z, ℤ}
use Rattle.std.specs.Int.{w128}
use Rattle.cand_pool.specs.Pools.{Block, candidate, IsHeld}
use Rattle.cand_pool.proofs.PoolSlots.{one_slot, write, written}
use Rattle.cand_pool.proofs.pool.Pool.write.Goals as goal

pub index_mut-requires : goal.index_mut-requires
index_mut-requires c =
    let held = subst (λ (s : Block). IsHeld s c.args.slot c.args.slot (candidate s c.args.slot ∷ [])) (sym c.self.view_is) c.requires in
    let low = (one_slot _ c.args.slot c.args.slot _ held).low in
    let all = c.self.invariant.pool.all in
    omega arith

pub returns-clause-written : goal.returns-clause-written
returns-clause-written c =
    let held = subst (λ (s : Block). IsHeld s c.args.slot c.args.slot (candidate s c.args.slot ∷ [])) (sym c.self.view_is) c.requires in
    rw (← c.self.view_is) (write _ c.args.slot c.args.slot _ _ c.self.invariant.pool held)

pub returns-clause-there : goal.returns-clause-there
returns-clause-there c =
    let held = subst (λ (s : Block). IsHeld s c.args.slot c.args.slot (candidate s c.args.slot ∷ [])) (sym c.self.view_is) c.requires in
    written _ c.args.slot c.args.slot _ _ c.self.invariant.pool held
    ∙ ap (λ (q : ℤ). record { q = q; c = c.args.c; tag = c.args.tag }) (to_z-of_z {w = w128} {z = c.args.q} (search rules))
