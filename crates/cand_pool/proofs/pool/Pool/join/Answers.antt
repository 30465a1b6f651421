use Rattle.std.proofs.Common.{rules, ◌≡◌, ℕ, ◌+◌, ◌∷◌, ap, ◌∙◌, subst, arith, to_z-of_z, ℤ}
use Rattle.std.specs.Int.{w128}
use Rattle.cand_pool.specs.Candidates.{Candidate, Candidates}
use Rattle.cand_pool.specs.Pools.{Block, candidate, items, IsHeld}
use Rattle.cand_pool.specs.Sieves.{IsSieve}
use Rattle.cand_pool.proofs.PoolMoves.{live_low, held_live}
use Rattle.cand_pool.proofs.PublicLaws.{first_held, held_named}
use Rattle.cand_pool.proofs.BranchLaws.{pivoted, held_first, joined_b, joined_a, joined_both}
use Rattle.cand_pool.proofs.pool.Pool.join.Goals as goal

pub look-x-requires : goal.look-x-requires
look-x-requires g c = record { there = live_low c.args.self.now c.args.at.a.first (held_live _ _ _ _ c.requires.three.more) c.requires.some_a }

pub look-y-requires : goal.look-y-requires
look-y-requires g c = record { there = live_low c.args.self.now c.args.at.b.first (held_live _ _ _ _ c.requires.three.two) c.requires.some_b }

-- a q that was read is that of the first candidate
q_is : (s : Block) (first last : ℕ) (x : Candidate) (xs : Candidates) (q q' : ℤ) → IsHeld s first last (x ∷ xs) → q' ≡ q → q ≡ (candidate s first).q → q' ≡ x.q
q_is s first last x xs q q' h e f = e ∙ f ∙ ap (λ (k : Candidate). k.q) (held_first s first last x xs h)

-- likewise both c
c_is : (s : Block) (a a_last b b_last : ℕ) (x y : Candidate) (xs ys : Candidates) (c d : ℕ) → IsHeld s a a_last (x ∷ xs) → IsHeld s b b_last (y ∷ ys) → c ≡ (candidate s a).c → d ≡ (candidate s b).c → c + d ≡ x.c + y.c
c_is s a a_last b b_last x y xs ys c d h k e f =
    let one : c ≡ x.c = e ∙ ap (λ (z : Candidate). z.c) (held_first s a a_last x xs h) in
    let two : d ≡ y.c = f ∙ ap (λ (z : Candidate). z.c) (held_first s b b_last y ys k) in
    omega arith

pub returns-then-y-x-clause-joined : goal.returns-then-y-x-clause-joined
returns-then-y-x-clause-joined g c = λ x y zs xs ys sieve.
    let x_is = q_is _ _ _ x xs _ _ sieve.more (to_z-of_z {w = w128} {z = c.look-x.result.q} (search rules)) c.look-x.ensures.q in
    let y_is = q_is _ _ _ y ys _ _ sieve.two (to_z-of_z {w = w128} {z = c.look-y.result.q} (search rules)) c.look-y.ensures.q in
    let load = c_is _ _ _ _ _ x y xs ys _ _ sieve.more sieve.two c.look-x.ensures.c c.look-y.ensures.c in
    joined_b _ _ c.args.at _ _ x y zs xs ys _ _ c.args.tag (rw (x_is, y_is) at c.if-y-x.true) y_is load (c.move_formed-moved.ensures c.args.at.a y ys zs _ (pivoted _ _ _ _ _ _ _ sieve))

pub returns-then-x-y-clause-joined : goal.returns-then-x-y-clause-joined
returns-then-x-y-clause-joined g c = λ x y zs xs ys sieve.
    let x_is = q_is _ _ _ x xs _ _ sieve.more (to_z-of_z {w = w128} {z = c.look-x.result.q} (search rules)) c.look-x.ensures.q in
    let y_is = q_is _ _ _ y ys _ _ sieve.two (to_z-of_z {w = w128} {z = c.look-y.result.q} (search rules)) c.look-y.ensures.q in
    let load = c_is _ _ _ _ _ x y xs ys _ _ sieve.more sieve.two c.look-x.ensures.c c.look-y.ensures.c in
    joined_a _ _ c.args.at _ _ x y zs xs ys _ _ c.args.tag (rw (x_is, y_is) at c.if-x-y.true) x_is load (c.move_formed-moved-2.ensures c.args.at.b x xs zs _ sieve)

pub free_first-requires-clause-live : goal.free_first-requires-clause-live
free_first-requires-clause-live g c =
    let (xs, e) = first_held c.args.self.now c.args.at.a.first c.args.at.a.last _ c.requires.some_a c.requires.three.more in
    let sieve = subst (λ (l : Candidates). IsSieve c.args.self.now c.args.at.a c.args.at.list c.args.at.b l (items c.args.self.now c.args.at.list.first) (items c.args.self.now c.args.at.b.first)) e c.requires.three in
    held_named _ c.args.at.b.first c.args.at.b.last _ (c.move_formed-moved-2.ensures c.args.at.b _ xs _ _ sieve).sieve.two

pub returns-clause-joined : goal.returns-clause-joined
returns-clause-joined g c = λ x y zs xs ys sieve.
    let x_is = q_is _ _ _ x xs _ _ sieve.more (to_z-of_z {w = w128} {z = c.look-x.result.q} (search rules)) c.look-x.ensures.q in
    let y_is = q_is _ _ _ y ys _ _ sieve.two (to_z-of_z {w = w128} {z = c.look-y.result.q} (search rules)) c.look-y.ensures.q in
    let load = c_is _ _ _ _ _ x y xs ys _ _ sieve.more sieve.two c.look-x.ensures.c c.look-y.ensures.c in
    let sifted = c.move_formed-moved-2.ensures c.args.at.b x xs zs _ sieve in
    let freed = (c.free_first.ensures.taken y ys sifted.sieve.two).1 in
    joined_both _ _ _ c.args.at _ _ _ x y zs xs ys _ _ c.args.tag (rw (x_is, y_is) at c.if-x-y.false) (rw (x_is, y_is) at c.if-y-x.false) x_is load sifted freed
