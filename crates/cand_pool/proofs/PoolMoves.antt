-- A list is put after another one; free slots are drawn and given back; a slot is written; the block grows.
use Rattle.std.proofs.Common.{◌≡◌, ◌≢◌, ℕ, suc, ◌<◌, ◌⊎◌, List, [], ◌∷◌, ◌++◌, length, map, get_or, set, refl, sym, ap, ◌∙◌, subst, arith, inl, inr}
use Rattle.std.proofs.lemmas.List.{map-append, get_or_default}
use Rattle.cand_pool.specs.Links.{none, link, IsIn, last_of, IsWhole, IsRelinked}
use Rattle.cand_pool.specs.Candidates.{Candidate}
use Rattle.cand_pool.specs.Pools.{Block, candidate, slots_of, spare, IsHeld, IsPool, IsSurePool, KeepsOthers}
use Rattle.cand_pool.specs.Moves.{relinked, IsTaken, IsPut, IsDrawn, IsFirst}
use Rattle.cand_pool.proofs.LinkLaws.{last_low}
use Rattle.cand_pool.proofs.MoveLaws.{cut, IsCut, join, IsJoined}
use Rattle.cand_pool.proofs.TrailLaws.{trail_is}
use Rattle.cand_pool.proofs.PoolLaws.{relink, none_empty, some_low, whole_stays, whole_at, keeps_relinked, pool_relinked, take, few_relinked}

last_append : (before y : ℕ) (xs ys : List ℕ) → last_of before (xs ++ (y ∷ ys)) ≡ last_of y ys
last_append before y [] ys = refl
last_append before y (x ∷ xs) ys = last_append x y xs ys

put_slots : (s : Block) (a a_last b b_last x y : ℕ) (xs ys : List ℕ) (ps rs : List Candidate) → IsPool s
    → IsWhole (link s.links) (length s.links) a (x ∷ xs) → last_of x xs ≡ a_last → (a ≡ s.free → a ≡ none) → map (candidate s) (x ∷ xs) ≡ ps
    → IsWhole (link s.links) (length s.links) b (y ∷ ys) → last_of y ys ≡ b_last → (b ≡ s.free → b ≡ none) → map (candidate s) (y ∷ ys) ≡ rs
    → a ≢ b → IsPut s a b b_last ps rs (relinked s a_last b s.free)
put_slots s a a_last b b_last x y xs ys ps rs pool one ends_a kept_a shows_a two ends_b kept_b shows_b differ =
    let low : a_last < length s.links = subst (λ (k : ℕ). k < length s.links) ends_a (last_low (link s.links) (length s.links) a x xs one.chain) in
    let is_joined : IsJoined (link s.links) (length s.links) a (x ∷ xs) b (y ∷ ys) (link (set s.links a_last b))
    = join (link s.links) (link (set s.links a_last b)) (length s.links) a x xs b y ys pool.block one two differ
    (subst (λ (k : ℕ). IsRelinked (link s.links) k b (link (set s.links a_last b))) (sym ends_a) (relink s.links a_last b low)) in
    let free : IsWhole (link (set s.links a_last b)) (length s.links) s.free (slots_of s s.free)
    = whole_stays (link s.links) (length s.links) (a ∷ b ∷ []) (link (set s.links a_last b)) (length s.links) (a ∷ []) s.free (slots_of s s.free) pool.block.few is_joined.others pool.free
    (λ (z : s.free ≢ none) is_old. elim is_old [ inl e ↦ z (e ∙ kept_a (sym e)) | inr (inl e) ↦ z (e ∙ kept_b (sym e)) | inr (inr none_of) ↦ none_of ]) in
    let (pool', free_is) = pool_relinked s a_last b s.free (slots_of s s.free) pool is_joined.block free in
    record {
      pool = pool';
      whole = record {
        few = few_relinked s.links a_last b pool.block.few;
        slots = (x ∷ xs) ++ (y ∷ ys);
        whole = whole_at s.links a_last b a ((x ∷ xs) ++ (y ∷ ys)) is_joined.whole;
        ends = λ _. last_append x y xs ys ∙ ends_b;
        kept = kept_a;
        shows = map-append (candidate s) (x ∷ xs) (y ∷ ys) ∙ ap (λ (l : List Candidate). l ++ map (candidate s) (y ∷ ys)) shows_a ∙ ap (λ (l : List Candidate). ps ++ l) shows_b;
      };
      others = keeps_relinked s a_last b s.free (a ∷ b ∷ []) (a ∷ []) is_joined.others (λ k slots w some_k out not_free. not_free);
      free = ap (λ (l : List ℕ). length l) free_is;
    }

put_from : (s : Block) (a a_last b b_last : ℕ) (ps rs : List Candidate) → IsPool s
    → (xs : List ℕ) → IsWhole (link s.links) (length s.links) a xs → last_of none xs ≡ a_last → (a ≡ s.free → a ≡ none) → map (candidate s) xs ≡ ps
    → (ys : List ℕ) → IsWhole (link s.links) (length s.links) b ys → last_of none ys ≡ b_last → (b ≡ s.free → b ≡ none) → map (candidate s) ys ≡ rs
    → a ≢ none → b ≢ none → a ≢ b → IsPut s a b b_last ps rs (relinked s a_last b s.free)
put_from s a a_last b b_last ps rs pool [] one ends_a kept_a shows_a ys two ends_b kept_b shows_b some_a some_b differ = absurd (some_a one.chain)
put_from s a a_last b b_last ps rs pool (x ∷ xs) one ends_a kept_a shows_a [] two ends_b kept_b shows_b some_a some_b differ = absurd (some_b two.chain)
put_from s a a_last b b_last ps rs pool (x ∷ xs) one ends_a kept_a shows_a (y ∷ ys) two ends_b kept_b shows_b some_a some_b differ =
    put_slots s a a_last b b_last x y xs ys ps rs pool one ends_a kept_a shows_a two ends_b kept_b shows_b differ

-- a list that is not empty is put after the end of another one
pub put : (s : Block) (a a_last b b_last : ℕ) (ps rs : List Candidate) → IsPool s → IsHeld s a a_last ps → IsHeld s b b_last rs → a ≢ none → b ≢ none → a ≢ b → IsPut s a b b_last ps rs (relinked s a_last b s.free)
put s a a_last b b_last ps rs pool one two some_a some_b differ =
    put_from s a a_last b b_last ps rs pool one.slots one.whole (one.ends some_a) one.kept one.shows two.slots two.whole (two.ends some_b) two.kept two.shows some_a some_b differ

-- what some calls in turn keep
pub keeps_then : (s t u : Block) (old middle from to new : List ℕ) → KeepsOthers s old t middle → KeepsOthers t from u to → ((k : ℕ) → IsIn k from → IsIn k middle) → ((k : ℕ) → IsIn k new → IsIn k to ⊎ IsIn k middle)
    → KeepsOthers s old u new
keeps_then s t u old middle from to new one two below above = record {
  few = λ few. two.few (one.few few);
  stays = λ first last xs h some out. two.stays first last xs (one.stays first last xs h some out) some (λ m. one.fresh first last xs h some out (below first m));
  fresh = λ first last xs h some out is_new. elim (above first is_new) [
    | inl m ↦ two.fresh first last xs (one.stays first last xs h some out) some (λ k. one.fresh first last xs h some out (below first k)) m
    | inr m ↦ one.fresh first last xs h some out m
  ];
}

pub keeps_itself : (s : Block) (old : List ℕ) → KeepsOthers s old s old
keeps_itself s old = record { few = λ few. few; stays = λ first last xs h some out. h; fresh = λ first last xs h some out. out }

draw_from : (s : Block) (slots : List ℕ) → slots_of s s.free ≡ slots → IsPool s → IsWhole (link s.links) (length s.links) s.free slots → s.free ≢ none → IsDrawn s (relinked s s.free none (link s.links s.free))
draw_from s [] slots_are pool whole some = absurd (some whole.chain)
draw_from s (y ∷ ys) slots_are pool whole some =
    let same : s.free ≡ y = whole.chain.0 in
    let low : s.free < length s.links = subst (λ (k : ℕ). k < length s.links) (sym same) whole.chain.1 in
    let whole' : IsWhole (link s.links) (length s.links) s.free (s.free ∷ ys) = subst (λ (k : ℕ). IsWhole (link s.links) (length s.links) s.free (k ∷ ys)) (sym same) whole in
    let is_cut : IsCut (link s.links) (length s.links) s.free ys (link (set s.links s.free none)) = cut (link s.links) (link (set s.links s.free none)) (length s.links) s.free ys pool.block whole' (relink s.links s.free none low) in
    let (pool', free_is) = pool_relinked s s.free none (link s.links s.free) ys pool is_cut.block is_cut.rest in
    let others : KeepsOthers s (s.free ∷ []) (relinked s s.free none (link s.links s.free)) (s.free ∷ link s.links s.free ∷ [])
    = keeps_relinked s s.free none (link s.links s.free) (s.free ∷ []) (s.free ∷ link s.links s.free ∷ []) is_cut.others
    (λ k slots w some_k out not_free is_rest. is_cut.others.fresh k slots w some_k out (inr (inl is_rest))) in
    record {
      pool = pool';
      one = record {
        few = few_relinked s.links s.free none pool.block.few;
        slots = s.free ∷ [];
        whole = whole_at s.links s.free none s.free (s.free ∷ []) is_cut.one;
        ends = λ _. refl;
        kept = λ e. absurd (whole.top some s.free (sym e));
        shows = refl;
      };
      others = record {
        few = others.few;
        stays = λ first last xs h some_k out. others.stays first last xs h some_k (λ is_free. elim is_free [ inl e ↦ some_k (h.kept e) | inr none_of ↦ none_of ]);
        fresh = λ first last xs h some_k out is_new. elim is_new [ inl e ↦ some_k (h.kept e) | inr none_of ↦ none_of ];
      };
      free = ap (λ (l : List ℕ). length l) slots_are ∙ ap (λ (l : List ℕ). suc (length l)) (sym free_is);
    }

-- the first free slot is drawn
pub draw : (s : Block) → IsPool s → s.free ≢ none → IsDrawn s (relinked s s.free none (link s.links s.free))
draw s pool some = draw_from s (slots_of s s.free) refl pool pool.free some

live_from : (s : Block) (sure first : ℕ) (slots : List ℕ) → slots_of s first ≡ slots → IsSurePool s sure
    → IsWhole (link s.links) (length s.links) first slots → (first ≡ s.free → first ≡ none) → first ≢ none → IsSurePool (relinked s first none s.free) sure
live_from s sure first [] e at whole kept some = absurd (some whole.chain)
live_from s sure first (y ∷ ys) e at whole kept some =
    let t : IsTaken s first (last_of y ys) (candidate s y) (map (candidate s) ys) (relinked s first none s.free) (link s.links first)
    = take s first (last_of y ys) (candidate s y) (map (candidate s) ys) at.pool
    (record { few = at.pool.block.few; slots = y ∷ ys; whole = whole; ends = λ _. refl; kept = kept; shows = refl }) in
    record { pool = t.pool; free = omega (arith, t.free, at.free) }

pub live_sure : (s : Block) (sure first : ℕ) → IsSurePool s sure → IsFirst s first → first ≢ none → IsSurePool (relinked s first none s.free) sure
live_sure s sure first at live some = live_from s sure first (slots_of s first) refl at live.whole live.kept some

pub live_low : (s : Block) (first : ℕ) → IsFirst s first → first ≢ none → first < length s.links
live_low s first live some = some_low (link s.links) (length s.links) first (slots_of s first) some live.whole.chain

-- a list that is held is live
pub held_live : (s : Block) (first last : ℕ) (xs : List Candidate) → IsHeld s first last xs → IsFirst s first
held_live s first last xs h =
    let e : slots_of s first ≡ h.slots = trail_is (link s.links) (length s.links) first h.slots h.few h.whole.chain in
    record { whole = subst (λ (l : List ℕ). IsWhole (link s.links) (length s.links) first l) (sym e) h.whole; kept = h.kept }

-- there is a free slot
pub spare_some : (s : Block) → IsPool s → 0 < spare s → s.free ≢ none
spare_some s pool room z =
    let e : slots_of s s.free ≡ [] = none_empty (link s.links) (length s.links) s.free (slots_of s s.free) pool.block.few z pool.free.chain in
    let f : spare s ≡ 0 = ap (λ (l : List ℕ). length l) e in
    absurd (omega arith)

-- a link that was read
pub link_read : (links : List ℕ) (i r : ℕ) → i < length links → r ≡ get_or links i r → r ≡ link links i
link_read links i r low e = e ∙ get_or_default links i r none low
