use Rattle.std.proofs.Common.{rules, [], ◌∷◌, sym, ◌∙◌, subst, arith, to_z-of_z}
use Rattle.std.specs.Int.{w128}
use Rattle.cand_pool.specs.Pools.{Block, candidate, IsHeld}
use Rattle.cand_pool.proofs.PoolSlots.{one_slot, write, read, written}
use Rattle.cand_pool.proofs.pool.Pool.rewrite.Goals as goal

pub index_mut-numbers-requires : goal.index_mut-numbers-requires
index_mut-numbers-requires c =
    let held = subst (λ (s : Block). IsHeld s c.args.slot c.args.slot (candidate s c.args.slot ∷ [])) (sym c.self.view_is) c.requires in
    let low = (one_slot _ c.args.slot c.args.slot _ held).low in
    let all = c.self.invariant.pool.all in
    omega arith

pub returns-clause-written : goal.returns-clause-written
returns-clause-written c =
    let held = subst (λ (s : Block). IsHeld s c.args.slot c.args.slot (candidate s c.args.slot ∷ [])) (sym c.self.view_is) c.requires in
    rw (← c.self.view_is) (write _ c.args.slot c.args.slot _ _ c.self.invariant.pool held)

pub returns-clause-there : goal.returns-clause-there
returns-clause-there c =
    let held = subst (λ (s : Block). IsHeld s c.args.slot c.args.slot (candidate s c.args.slot ∷ [])) (sym c.self.view_is) c.requires in
    let q_is = to_z-of_z {w = w128} {z = c.args.q} (search rules) in
    let low = (one_slot _ c.args.slot c.args.slot _ held).low in
    let old = read _ c.args.slot c.index_mut-numbers.result.now c.self.invariant.pool low c.index_mut-numbers.ensures.value in
    rw (← c.self.view_is) (written _ c.args.slot c.args.slot _ _ c.self.invariant.pool held ∙ (λ i. record { q = q_is i; c = c.args.c; tag = (old i).tag }))
