-- One turn of a sieve: the first candidate of the rest is cut off, written, and put after one of two lists.
use Rattle.std.proofs.Common.{◌≡◌, ◌≢◌, ℕ, List, [], ◌∷◌, ◌++◌, sym, ◌∙◌, subst, inl, inr}
use Rattle.cand_pool.specs.Links.{none, IsIn}
use Rattle.cand_pool.specs.Candidates.{Candidate}
use Rattle.cand_pool.specs.Pools.{Block, candidate, IsHeld, KeepsOthers}
use Rattle.cand_pool.specs.Moves.{IsTaken, IsWritten, IsAppended}
use Rattle.cand_pool.specs.Sieves.{IsSieve, IsSifted}
use Rattle.cand_pool.specs.declared.ends.Ends.{Ends}
use Rattle.cand_pool.proofs.PoolMoves.{keeps_then}
use Rattle.cand_pool.proofs.PublicLaws.{keeps_with, stays_any}

-- what is kept, said of more old names and fewer new ones
pub keeps_like : (s t : Block) (old new old' new' : List ℕ) → KeepsOthers s old t new → ((k : ℕ) → IsIn k old → IsIn k old') → ((k : ℕ) → IsIn k new' → IsIn k new) → KeepsOthers s old' t new'
keeps_like s t old new old' new' keeps more fewer = record {
  few = keeps.few;
  stays = λ first last xs h some out. keeps.stays first last xs h some (λ m. out (more first m));
  fresh = λ first last xs h some out is_new. keeps.fresh first last xs h some (λ m. out (more first m)) (fewer first is_new);
}

pub sift : (s t u v : Block) (first last a a_last b b_last rest a' a_last' : ℕ) (x y : Candidate) (xs ps rs : List Candidate)
    → IsSieve s (record { first = first; last = last }) (record { first = a; last = a_last }) (record { first = b; last = b_last }) (x ∷ xs) ps rs → first ≢ none → IsTaken s first last x xs t rest → IsWritten t first u → candidate u first ≡ y → IsAppended u a a_last first first v a' a_last'
    → IsSifted s v (record { first = first; last = last }) (record { first = a; last = a_last }) (record { first = b; last = b_last }) (record { first = rest; last = last }) (record { first = a'; last = a_last' }) xs ps rs y
sift s t u v first last a a_last b b_last rest a' a_last' x y xs ps rs sieve some taken written is_y appended =
    let not_a : a ≢ none → IsIn a (first ∷ []) → ⊥ = λ (z : a ≢ none) (m : IsIn a (first ∷ [])). elim m [ inl e ↦ sieve.rest_one some (sym e) | inr o ↦ o ] in
    let not_b : b ≢ none → IsIn b (first ∷ []) → ⊥ = λ (z : b ≢ none) (m : IsIn b (first ∷ [])). elim m [ inl e ↦ sieve.rest_two some (sym e) | inr o ↦ o ] in
    let a_t : IsHeld t a a_last ps = stays_any s t (first ∷ []) (first ∷ rest ∷ []) a a_last ps taken.others taken.one.few not_a sieve.one in
    let b_t : IsHeld t b b_last rs = stays_any s t (first ∷ []) (first ∷ rest ∷ []) b b_last rs taken.others taken.one.few not_b sieve.two in
    let a_u : IsHeld u a a_last ps = stays_any t u (first ∷ []) (first ∷ []) a a_last ps written.others written.one.few not_a a_t in
    let b_u : IsHeld u b b_last rs = stays_any t u (first ∷ []) (first ∷ []) b b_last rs written.others written.one.few not_b b_t in
    let rest_u : IsHeld u rest last xs = stays_any t u (first ∷ []) (first ∷ []) rest last xs written.others written.one.few
    (λ (z : rest ≢ none) (m : IsIn rest (first ∷ [])). elim m [ inl e ↦ taken.differ (sym e) | inr o ↦ o ]) taken.more in
    let one_u : IsHeld u first first (y ∷ []) = subst (λ (k : Candidate). IsHeld u first first (k ∷ [])) is_y written.one in
    let joined : IsHeld v a' a_last' (ps ++ (y ∷ [])) = appended.joined ps (y ∷ []) a_u one_u in
    let rest_out : rest ≢ none → IsIn rest (a ∷ first ∷ []) → ⊥ = λ (z : rest ≢ none) (m : IsIn rest (a ∷ first ∷ [])). elim m [
      | inl e ↦ taken.others.fresh a a_last ps sieve.one (λ f. z (e ∙ f)) (not_a (λ f. z (e ∙ f))) (inr (inl (sym e)))
      | inr (inl e) ↦ taken.differ (sym e)
      | inr (inr o) ↦ o
    ] in
    let b_out : b ≢ none → IsIn b (a ∷ first ∷ []) → ⊥ = λ (z : b ≢ none) (m : IsIn b (a ∷ first ∷ [])). elim m [
      | inl e ↦ sieve.one_two (λ f. z (e ∙ f)) (sym e)
      | inr (inl e) ↦ sieve.rest_two some (sym e)
      | inr (inr o) ↦ o
    ] in
    let first_two : KeepsOthers s (first ∷ []) u (first ∷ rest ∷ [])
    = keeps_then s t u (first ∷ []) (first ∷ rest ∷ []) (first ∷ []) (first ∷ []) (first ∷ rest ∷ []) taken.others written.others
    (λ k m. elim m [ inl e ↦ inl e | inr o ↦ absurd o ])
    (λ k m. inr m) in
    let named : KeepsOthers s (first ∷ a ∷ b ∷ []) u (first ∷ a ∷ b ∷ rest ∷ [])
    = keeps_like s u (b ∷ a ∷ first ∷ []) (b ∷ a ∷ first ∷ rest ∷ []) (first ∷ a ∷ b ∷ []) (first ∷ a ∷ b ∷ rest ∷ [])
    (keeps_with s u b (a ∷ first ∷ []) (a ∷ first ∷ rest ∷ []) (keeps_with s u a (first ∷ []) (first ∷ rest ∷ []) first_two))
    (λ k m. elim m [ inl e ↦ inr (inr (inl e)) | inr (inl e) ↦ inr (inl e) | inr (inr (inl e)) ↦ inl e | inr (inr (inr o)) ↦ absurd o ])
    (λ k m. elim m [ inl e ↦ inr (inr (inl e)) | inr (inl e) ↦ inr (inl e) | inr (inr (inl e)) ↦ inl e | inr (inr (inr o)) ↦ inr (inr (inr o)) ]) in
    record {
      sieve = record {
        more = stays_any u v (a ∷ first ∷ []) (a' ∷ []) rest last xs appended.others joined.few rest_out rest_u;
        one = joined;
        two = stays_any u v (a ∷ first ∷ []) (a' ∷ []) b b_last rs appended.others joined.few b_out b_u;
        rest_one = λ z e. appended.others.fresh rest last xs rest_u z (rest_out z) (inl e);
        rest_two = λ z e. taken.others.fresh b b_last rs sieve.two (λ f. z (e ∙ f)) (not_b (λ f. z (e ∙ f))) (inr (inl (sym e)));
        one_two = λ z e. appended.others.fresh b b_last rs b_u (λ f. z (e ∙ f)) (b_out (λ f. z (e ∙ f))) (inl (sym e));
      };
      others = keeps_then s u v (first ∷ a ∷ b ∷ []) (first ∷ a ∷ b ∷ rest ∷ []) (a ∷ first ∷ []) (a' ∷ []) (rest ∷ a' ∷ b ∷ []) named appended.others
          (λ k m. elim m [ inl e ↦ inr (inl e) | inr (inl e) ↦ inl e | inr (inr o) ↦ absurd o ])
          (λ k m. elim m [ inl e ↦ inr (inr (inr (inr (inl e)))) | inr (inl e) ↦ inl (inl e) | inr (inr (inl e)) ↦ inr (inr (inr (inl e))) | inr (inr (inr o)) ↦ absurd o ]);
      free = appended.free ∙ written.free ∙ taken.free;
    }

-- the same with the two lists in the other order
pub turned : (s : Block) (rest a b : Ends) (xs ps rs : List Candidate) → IsSieve s rest a b xs ps rs → IsSieve s rest b a xs rs ps
turned s rest a b xs ps rs sieve = record {
  more = sieve.more;
  one = sieve.two;
  two = sieve.one;
  rest_one = sieve.rest_two;
  rest_two = sieve.rest_one;
  one_two = λ z e. sieve.one_two (λ f. z (e ∙ f)) (sym e);
}

pub swapped : (s t : Block) (p a b p' a' b' : ℕ) → KeepsOthers s (p ∷ a ∷ b ∷ []) t (p' ∷ a' ∷ b' ∷ []) → KeepsOthers s (p ∷ b ∷ a ∷ []) t (p' ∷ b' ∷ a' ∷ [])
swapped s t p a b p' a' b' keeps =
    keeps_like s t (p ∷ a ∷ b ∷ []) (p' ∷ a' ∷ b' ∷ []) (p ∷ b ∷ a ∷ []) (p' ∷ b' ∷ a' ∷ []) keeps
    (λ k m. elim m [ inl e ↦ inl e | inr (inl e) ↦ inr (inr (inl e)) | inr (inr (inl e)) ↦ inr (inl e) | inr (inr (inr o)) ↦ absurd o ])
    (λ k m. elim m [ inl e ↦ inl e | inr (inl e) ↦ inr (inr (inl e)) | inr (inr (inl e)) ↦ inr (inl e) | inr (inr (inr o)) ↦ absurd o ])
