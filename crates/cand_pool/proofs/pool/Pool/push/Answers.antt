use Rattle.std.proofs.Common.{rules, ℕ, suc, [], ◌∷◌, sym, ap, ◌∙◌, subst, inl}
use Rattle.std.proofs.Common.{to_z-of_z, ℤ}
use Rattle.std.specs.Int.{w128}
use Rattle.cand_pool.specs.Pools.{IsHeld}
use Rattle.cand_pool.proofs.PoolSlots.{one_slot}
use Rattle.cand_pool.proofs.PublicLaws.{held_named, stays_any, pushed, pushed_others}
use Rattle.cand_pool.proofs.pool.Pool.push.Goals as goal

pub put_after-list-requires-clause-one : goal.put_after-list-requires-clause-one
put_after-list-requires-clause-one c =
    held_named _ c.args.list.now.ends.first c.args.list.now.ends.last _ (stays_any _ _ [] _ c.args.list.now.ends.first c.args.list.now.ends.last _ c.one.ensures.others c.one.ensures.list.few (λ some m. m) c.requires.live)

pub put_after-list-requires-clause-two : goal.put_after-list-requires-clause-two
put_after-list-requires-clause-two c = held_named _ c.one.result.ends.first c.one.result.ends.last _ c.one.ensures.list

pub put_after-list-requires-clause-differ : goal.put_after-list-requires-clause-differ
put_after-list-requires-clause-differ c = λ e.
    let some = (one_slot _ _ _ _ c.one.ensures.list).some in
    absurd (c.one.ensures.others.fresh c.args.list.now.ends.first c.args.list.now.ends.last _ c.requires.live (λ z. some (sym e ∙ z)) (λ m. m) (inl e))

pub returns-clause-list : goal.returns-clause-list
returns-clause-list c = λ xs h.
    let one : IsHeld c.one.new.self c.one.result.ends.first c.one.result.ends.last (record { q = c.args.q; c = c.args.c; tag = c.args.tag } ∷ [])
    = subst (λ (q : ℤ). IsHeld c.one.new.self c.one.result.ends.first c.one.result.ends.last (record { q = q; c = c.args.c; tag = c.args.tag } ∷ [])) (to_z-of_z {w = w128} {z = c.args.q} (search rules)) c.one.ensures.list in
    pushed _ _ _ c.args.list.now.ends.first c.args.list.now.ends.last c.one.result.ends.first c.one.result.ends.last _ _ xs _ c.one.ensures.others one c.put_after-list.ensures h

pub returns-clause-others : goal.returns-clause-others
returns-clause-others c = pushed_others _ _ _ c.args.list.now.ends.first c.args.list.now.ends.last c.one.result.ends.first c.one.result.ends.last _ _ c.one.ensures.others c.put_after-list.ensures

pub returns-clause-spare : goal.returns-clause-spare
returns-clause-spare c = c.one.ensures.spare ∙ ap (λ (n : ℕ). suc n) (sym c.put_after-list.ensures.free)
