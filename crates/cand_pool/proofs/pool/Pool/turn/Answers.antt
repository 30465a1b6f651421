use Rattle.std.proofs.Common.{rules, ◌≡◌, ◌≢◌, ℕ, List, [], ◌∷◌, sym, ◌∙◌, subst, inl, inr, to_z-of_z, ℤ}
use Rattle.std.specs.Int.{w128}
use Rattle.cand_pool.specs.Links.{none, IsIn}
use Rattle.cand_pool.specs.Candidates.{Candidate}
use Rattle.cand_pool.specs.Pools.{Block, IsHeld}
use Rattle.cand_pool.specs.Moves.{IsTaken, IsWritten}
use Rattle.cand_pool.proofs.PoolMoves.{held_live}
use Rattle.cand_pool.proofs.PoolSlots.{one_slot}
use Rattle.cand_pool.proofs.PublicLaws.{held_named, one_held, stays_any, first_held}
use Rattle.cand_pool.proofs.SieveLaws.{sift, turned}
use Rattle.cand_pool.proofs.WireLaws.{turn_kept, turn_dropped}
use Rattle.cand_pool.proofs.pool.Pool.turn.Goals as goal

-- a list that was not the first one stays while its slot is cut off and written
two_stays : (s t u : Block) (first last rest a a_last : ℕ) (x : Candidate) (xs ps : List Candidate) → IsTaken s first last x xs t rest → IsWritten t first u → first ≢ a → IsHeld s a a_last ps → IsHeld u a a_last ps
two_stays s t u first last rest a a_last x xs ps taken written differ h =
    let out : a ≢ none → IsIn a (first ∷ []) → ⊥ = λ (z : a ≢ none) (m : IsIn a (first ∷ [])). elim m [ inl e ↦ differ (sym e) | inr o ↦ o ] in
    stays_any t u (first ∷ []) (first ∷ []) a a_last ps written.others written.one.few out (stays_any s t (first ∷ []) (first ∷ rest ∷ []) a a_last ps taken.others taken.one.few out h)

y_is : (y old x : Candidate) (q' q : ℤ) (c : ℕ) → y ≡ record { q = q'; c = c; tag = old.tag } → q' ≡ q → old ≡ x → y ≡ record { q = q; c = c; tag = x.tag }
y_is y old x q' q c e f g = e ∙ (λ i. record { q = f i; c = c; tag = (g i).tag })

pub take_first-at-requires-clause-live : goal.take_first-at-requires-clause-live
take_first-at-requires-clause-live c = held_live c.args.self.now c.args.at.now.rest.first c.args.at.now.rest.last _ c.requires.three.more

pub rewrite-requires : goal.rewrite-requires
rewrite-requires c =
    let (ys, e) = first_held c.args.self.now c.args.at.now.rest.first c.args.at.now.rest.last _ c.requires.some c.requires.three.more in
    let t = c.take_first-at.ensures.taken c.args.at.now.rest.last _ ys (subst (λ (l : List Candidate). IsHeld c.args.self.now c.args.at.now.rest.first c.args.at.now.rest.last l) e c.requires.three.more) in
    one_held _ _ _ _ t.one

pub put_last-requires-clause-one : goal.put_last-requires-clause-one
put_last-requires-clause-one c =
    let (ys, e) = first_held c.args.self.now c.args.at.now.rest.first c.args.at.now.rest.last _ c.requires.some c.requires.three.more in
    let t = c.take_first-at.ensures.taken c.args.at.now.rest.last _ ys (subst (λ (l : List Candidate). IsHeld c.args.self.now c.args.at.now.rest.first c.args.at.now.rest.last l) e c.requires.three.more) in
    held_named _ c.args.at.now.kept.first c.args.at.now.kept.last _
    (two_stays _ _ _ c.args.at.now.rest.first c.args.at.now.rest.last _ c.args.at.now.kept.first c.args.at.now.kept.last _ ys _ t c.rewrite.ensures.written (c.requires.three.rest_one c.requires.some) c.requires.three.one)

pub put_last-requires-clause-two : goal.put_last-requires-clause-two
put_last-requires-clause-two c = held_named _ c.args.at.now.rest.first c.args.at.now.rest.first _ c.rewrite.ensures.written.one

pub put_last-requires-clause-differ : goal.put_last-requires-clause-differ
put_last-requires-clause-differ c = λ e. absurd (c.requires.three.rest_one c.requires.some (sym e))

pub put_last-requires-else-q-at-clause-one : goal.put_last-requires-else-q-at-clause-one
put_last-requires-else-q-at-clause-one c =
    let (ys, e) = first_held c.args.self.now c.args.at.now.rest.first c.args.at.now.rest.last _ c.requires.some c.requires.three.more in
    let t = c.take_first-at.ensures.taken c.args.at.now.rest.last _ ys (subst (λ (l : List Candidate). IsHeld c.args.self.now c.args.at.now.rest.first c.args.at.now.rest.last l) e c.requires.three.more) in
    held_named _ c.args.at.now.dropped.first c.args.at.now.dropped.last _
    (two_stays _ _ _ c.args.at.now.rest.first c.args.at.now.rest.last _ c.args.at.now.dropped.first c.args.at.now.dropped.last _ ys _ t c.rewrite.ensures.written (c.requires.three.rest_two c.requires.some) c.requires.three.two)

pub put_last-requires-else-q-at-clause-two : goal.put_last-requires-else-q-at-clause-two
put_last-requires-else-q-at-clause-two c = held_named _ c.args.at.now.rest.first c.args.at.now.rest.first _ c.rewrite.ensures.written.one

pub put_last-requires-else-q-at-clause-differ : goal.put_last-requires-else-q-at-clause-differ
put_last-requires-else-q-at-clause-differ c = λ e. absurd (c.requires.three.rest_two c.requires.some (sym e))

pub returns-then-q-at : goal.returns-then-q-at
returns-then-q-at c = λ x xs ks ds sieve.
    let q_is = to_z-of_z {w = w128} {z = c.args.q} (search rules) in
    let best_is = to_z-of_z {w = w128} {z = c.args.at.now.best} (search rules) in
    let t = c.take_first-at.ensures.taken c.args.at.now.rest.last x xs sieve.more in
    let same = (one_slot _ _ _ _ t.one).shows in
    let is_y = y_is _ _ x _ c.args.q c.args.c c.rewrite.ensures.there q_is same in
    let sifted = sift _ _ _ _ c.args.at.now.rest.first c.args.at.now.rest.last c.args.at.now.kept.first c.args.at.now.kept.last c.args.at.now.dropped.first c.args.at.now.dropped.last c.take_first-at.result _ _ x _ xs ks ds sieve c.requires.some t
    c.rewrite.ensures.written is_y c.put_last.ensures in
    rw q_is (turn_kept _ _ c.args.at.now _ _ xs ks ds _ (rw (q_is, best_is) at c.if-q-at.true) sifted)

pub returns-else-q-at : goal.returns-else-q-at
returns-else-q-at c = λ x xs ks ds sieve.
    let q_is = to_z-of_z {w = w128} {z = c.args.q} (search rules) in
    let best_is = to_z-of_z {w = w128} {z = c.args.at.now.best} (search rules) in
    let t = c.take_first-at.ensures.taken c.args.at.now.rest.last x xs sieve.more in
    let same = (one_slot _ _ _ _ t.one).shows in
    let is_y = y_is _ _ x _ c.args.q c.args.c c.rewrite.ensures.there q_is same in
    let sifted = sift _ _ _ _ c.args.at.now.rest.first c.args.at.now.rest.last c.args.at.now.dropped.first c.args.at.now.dropped.last c.args.at.now.kept.first c.args.at.now.kept.last c.take_first-at.result _ _ x _ xs ds ks (turned _ _ _ _ _ _ _ sieve)
    c.requires.some t c.rewrite.ensures.written is_y c.put_last-else-q-at.ensures in
    turn_dropped _ _ c.args.at.now _ _ xs ks ds _ (rw (q_is, best_is) at c.if-q-at.false) sifted
