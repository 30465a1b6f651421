use Rattle.std.proofs.Common.{rules, ◌≡◌, ◌≢◌, ℕ, List, [], ◌∷◌, refl, sym, ◌∙◌, subst, inl, inr, to_z-of_z, ℤ}
use Rattle.std.specs.Int.{w128}
use Rattle.cand_pool.specs.Links.{none, IsIn}
use Rattle.cand_pool.specs.Candidates.{Candidate}
use Rattle.cand_pool.specs.Pools.{Block, IsHeld}
use Rattle.cand_pool.specs.Moves.{IsTaken, IsWritten}
use Rattle.cand_pool.proofs.PoolMoves.{held_live, keeps_itself}
use Rattle.cand_pool.proofs.PoolSlots.{one_slot}
use Rattle.cand_pool.proofs.PublicLaws.{held_named, one_held, stays_any, first_held}
use Rattle.cand_pool.proofs.SieveLaws.{sift, turned}
use Rattle.cand_pool.proofs.WireLaws.{turn_kept, turn_dropped}
use Rattle.cand_pool.proofs.pool.Pool.pass.Goals as goal

-- a list that was not the first one stays while its slot is cut off
stays : (s t : Block) (first last rest a a_last : ℕ) (x : Candidate) (xs ps : List Candidate) → IsTaken s first last x xs t rest → first ≢ a
    → IsHeld s a a_last ps → IsHeld t a a_last ps
stays s t first last rest a a_last x xs ps taken differ h =
    let out : a ≢ none → IsIn a (first ∷ []) → ⊥ = λ (z : a ≢ none) (m : IsIn a (first ∷ [])). elim m [ inl e ↦ differ (sym e) | inr o ↦ o ] in
    stays_any s t (first ∷ []) (first ∷ rest ∷ []) a a_last ps taken.others taken.one.few out h

-- its slot is as it was
not_written : (s t : Block) (first last rest : ℕ) (x : Candidate) (xs : List Candidate) → IsTaken s first last x xs t rest → IsWritten t first t
not_written s t first last rest x xs taken = record {
  pool = taken.pool;
  one = one_held t first first x taken.one;
  others = keeps_itself t (first ∷ []);
  free = refl;
}

with_q : (y x : Candidate) (q : ℤ) → y ≡ x → q ≡ x.q → y ≡ record { q = q; c = x.c; tag = x.tag }
with_q y x q e f = e ∙ (λ i. record { q = sym f i; c = x.c; tag = x.tag })

pub take_first-at-requires-clause-live : goal.take_first-at-requires-clause-live
take_first-at-requires-clause-live c = held_live c.args.self.now c.args.at.now.rest.first c.args.at.now.rest.last _ c.requires.three.more

pub put_last-requires-clause-one : goal.put_last-requires-clause-one
put_last-requires-clause-one c =
    let (ys, e) = first_held c.args.self.now c.args.at.now.rest.first c.args.at.now.rest.last _ c.requires.some c.requires.three.more in
    let t = c.take_first-at.ensures.taken c.args.at.now.rest.last _ ys
    (subst (λ (l : List Candidate). IsHeld c.args.self.now c.args.at.now.rest.first c.args.at.now.rest.last l) e c.requires.three.more) in
    held_named _ c.args.at.now.kept.first c.args.at.now.kept.last _
    (stays _ _ c.args.at.now.rest.first c.args.at.now.rest.last _ c.args.at.now.kept.first c.args.at.now.kept.last _ ys _ t
    (c.requires.three.rest_one c.requires.some) c.requires.three.one)

pub put_last-requires-clause-two : goal.put_last-requires-clause-two
put_last-requires-clause-two c =
    let (ys, e) = first_held c.args.self.now c.args.at.now.rest.first c.args.at.now.rest.last _ c.requires.some c.requires.three.more in
    let t = c.take_first-at.ensures.taken c.args.at.now.rest.last _ ys
    (subst (λ (l : List Candidate). IsHeld c.args.self.now c.args.at.now.rest.first c.args.at.now.rest.last l) e c.requires.three.more) in
    held_named _ c.args.at.now.rest.first c.args.at.now.rest.first _ (one_held _ _ _ _ t.one)

pub put_last-requires-clause-differ : goal.put_last-requires-clause-differ
put_last-requires-clause-differ c = λ e. absurd (c.requires.three.rest_one c.requires.some (sym e))

pub put_last-requires-else-q-at-clause-one : goal.put_last-requires-else-q-at-clause-one
put_last-requires-else-q-at-clause-one c =
    let (ys, e) = first_held c.args.self.now c.args.at.now.rest.first c.args.at.now.rest.last _ c.requires.some c.requires.three.more in
    let t = c.take_first-at.ensures.taken c.args.at.now.rest.last _ ys
    (subst (λ (l : List Candidate). IsHeld c.args.self.now c.args.at.now.rest.first c.args.at.now.rest.last l) e c.requires.three.more) in
    held_named _ c.args.at.now.dropped.first c.args.at.now.dropped.last _
    (stays _ _ c.args.at.now.rest.first c.args.at.now.rest.last _ c.args.at.now.dropped.first c.args.at.now.dropped.last _ ys _ t
    (c.requires.three.rest_two c.requires.some) c.requires.three.two)

pub put_last-requires-else-q-at-clause-two : goal.put_last-requires-else-q-at-clause-two
put_last-requires-else-q-at-clause-two c =
    let (ys, e) = first_held c.args.self.now c.args.at.now.rest.first c.args.at.now.rest.last _ c.requires.some c.requires.three.more in
    let t = c.take_first-at.ensures.taken c.args.at.now.rest.last _ ys
    (subst (λ (l : List Candidate). IsHeld c.args.self.now c.args.at.now.rest.first c.args.at.now.rest.last l) e c.requires.three.more) in
    held_named _ c.args.at.now.rest.first c.args.at.now.rest.first _ (one_held _ _ _ _ t.one)

pub put_last-requires-else-q-at-clause-differ : goal.put_last-requires-else-q-at-clause-differ
put_last-requires-else-q-at-clause-differ c = λ e. absurd (c.requires.three.rest_two c.requires.some (sym e))

pub returns-then-q-at : goal.returns-then-q-at
returns-then-q-at c = λ x xs ks ds sieve own.
    let q_is = to_z-of_z {w = w128} {z = c.args.q} (search rules) in
    let best_is = to_z-of_z {w = w128} {z = c.args.at.now.best} (search rules) in
    let t = c.take_first-at.ensures.taken c.args.at.now.rest.last x xs sieve.more in
    let same = (one_slot _ _ _ _ t.one).shows in
    let is_y = with_q _ x c.args.q same own in
    let sifted = sift _ _ _ _ c.args.at.now.rest.first c.args.at.now.rest.last
    c.args.at.now.kept.first c.args.at.now.kept.last c.args.at.now.dropped.first c.args.at.now.dropped.last c.take_first-at.result _ _ x
    _ xs ks ds sieve c.requires.some t
    (not_written _ _ _ _ _ x xs t) is_y c.put_last.ensures in
    rw q_is (turn_kept _ _ c.args.at.now _ _ xs ks ds _ (rw (q_is, best_is) at c.if-q-at.true) sifted)

pub returns-else-q-at : goal.returns-else-q-at
returns-else-q-at c = λ x xs ks ds sieve own.
    let q_is = to_z-of_z {w = w128} {z = c.args.q} (search rules) in
    let best_is = to_z-of_z {w = w128} {z = c.args.at.now.best} (search rules) in
    let t = c.take_first-at.ensures.taken c.args.at.now.rest.last x xs sieve.more in
    let same = (one_slot _ _ _ _ t.one).shows in
    let is_y = with_q _ x c.args.q same own in
    let sifted = sift _ _ _ _ c.args.at.now.rest.first c.args.at.now.rest.last
    c.args.at.now.dropped.first c.args.at.now.dropped.last c.args.at.now.kept.first c.args.at.now.kept.last c.take_first-at.result _ _ x
    _ xs ds ks (turned _ _ _ _ _ _ _ sieve)
    c.requires.some t (not_written _ _ _ _ _ x xs t) is_y c.put_last-else-q-at.ensures in
    turn_dropped _ _ c.args.at.now _ _ xs ks ds _ (rw (q_is, best_is) at c.if-q-at.false) sifted
