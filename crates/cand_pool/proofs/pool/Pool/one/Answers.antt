use Rattle.std.proofs.Common.{rules, ℕ, suc, [], ◌∷◌, sym, ap, ◌∙◌, subst}
use Rattle.std.proofs.Common.{to_z-of_z, ℤ}
use Rattle.std.specs.Int.{w128}
use Rattle.cand_pool.specs.Candidates.{Candidate}
use Rattle.cand_pool.specs.Pools.{IsHeld}
use Rattle.cand_pool.proofs.PublicLaws.{one_held, made}
use Rattle.cand_pool.proofs.pool.Pool.one.Goals as goal

pub write-requires : goal.write-requires
write-requires c = rw c.draw-slot.ensures.slot (one_held _ _ _ _ c.draw-slot.ensures.drawn.one)

pub returns-clause-list : goal.returns-clause-list
returns-clause-list c =
    subst (λ (x : Candidate). IsHeld c.write.new.self c.draw-slot.result c.draw-slot.result (x ∷ []))
    (c.write.ensures.there ∙ ap (λ (q : ℤ). record { q = q; c = c.args.c; tag = c.args.tag }) (to_z-of_z {w = w128} {z = c.args.q} (search rules)))
    c.write.ensures.written.one

pub returns-clause-others : goal.returns-clause-others
returns-clause-others c = made _ _ _ c.draw-slot.result c.draw-slot.ensures.slot c.draw-slot.ensures.drawn c.write.ensures.written

pub returns-clause-spare : goal.returns-clause-spare
returns-clause-spare c = c.draw-slot.ensures.drawn.free ∙ ap (λ (n : ℕ). suc n) (sym c.write.ensures.written.free)
