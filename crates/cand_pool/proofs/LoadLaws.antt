-- A load beside a list: its slots are written one after another, and no link changes.
use Rattle.std.proofs.Common.{◌≡◌, ◌≢◌, ℕ, suc, ◌+◌, ◌^◌, ◌<◌, ◌≤◌, List, [], ◌∷◌, length, map, get_or, set, refl, sym, ap, ◌∙◌, subst, arith, inl, inr, length-set}
use Rattle.std.proofs.lemmas.List.{get_or-set_same, get_or-set_other, length-map}
use Rattle.cand_pool.specs.Links.{none, link, IsChain, IsIn, IsWhole, trail}
use Rattle.cand_pool.specs.Candidates.{Candidate, AreModest, loaded}
use Rattle.cand_pool.specs.declared.numbers.Numbers.{Numbers}
use Rattle.cand_pool.specs.Pools.{Block, seen, blank, candidate_at, candidate, slots_of, items, spare, IsHeld, IsPool, KeepsOthers}
use Rattle.cand_pool.specs.Moves.{rewritten, heavier, loaded_at, IsLoading}
use Rattle.cand_pool.proofs.LinkLaws.{apart}
use Rattle.cand_pool.proofs.MoveLaws.{is_same}
use Rattle.cand_pool.proofs.TrailLaws.{trail_is, once}
use Rattle.cand_pool.proofs.PoolLaws.{none_empty}
use Rattle.cand_pool.proofs.PoolSlots.{map_same}
use Rattle.cand_pool.proofs.PublicLaws.{held_items}

-- the slots of a list are those that the links lead through
whole_slots : (s : Block) (first last : ℕ) (xs : List Candidate) → IsHeld s first last xs → IsWhole (link s.links) (length s.links) first (slots_of s first)
whole_slots s first last xs h =
    subst (λ (l : List ℕ). IsWhole (link s.links) (length s.links) first l) (sym (trail_is (link s.links) (length s.links) first h.slots h.few h.whole.chain)) h.whole

pub loading_start : (c : ℕ) (s : Block) (first last : ℕ) (xs : List Candidate) → length s.links ≤ length s.candidates → IsHeld s first last xs → IsLoading c s (slots_of s first) s first
loading_start c s first last xs long h = record {
  candidates = s.candidates;
  same = refl;
  long = long;
  left = slots_of s first;
  chain = (whole_slots s first last xs h).chain;
  inside = λ i m. m;
  ahead = λ i m. refl;
  behind = λ i m out. absurd (out m);
  others = λ i out. refl;
}

-- the first of what is left is written
next_from : (c : ℕ) (s : Block) (slots : List ℕ) (candidates : List Numbers) (slot : ℕ) (left : List ℕ) → length s.links ≤ none → slot ≢ none → length s.links ≤ length candidates
    → IsChain (link s.links) (length s.links) slot left → ((i : ℕ) → IsIn i left → IsIn i slots) → ((i : ℕ) → IsIn i left → candidate_at candidates i ≡ candidate s i)
    → ((i : ℕ) → IsIn i slots → (IsIn i left → ⊥) → candidate_at candidates i ≡ loaded c (candidate s i)) → ((i : ℕ) → (IsIn i slots → ⊥) → candidate_at candidates i ≡ candidate s i)
    → IsLoading c s slots (loaded_at c (rewritten s candidates) slot) (link s.links slot)
next_from c s slots candidates slot [] few some long chain inside ahead behind others = absurd (some chain)
next_from c s slots candidates slot (x ∷ more) few some long chain inside ahead behind others =
    let y : Numbers = heavier c (get_or candidates slot blank) in
    let e : slot ≡ x = chain.0 in
    let low : x < length s.links = chain.1 in
    let other : (i : ℕ) → i ≢ slot → candidate_at (set candidates slot (heavier c (get_or candidates slot blank))) i ≡ candidate_at candidates i
    = λ i d. ap seen (get_or-set_other candidates slot i y blank d) in
    record {
      candidates = set candidates slot y;
      same = refl;
      long = rw (length-set candidates slot y) long;
      left = more;
      chain = subst (λ (k : ℕ). IsChain (link s.links) (length s.links) (link s.links k) more) (sym e) chain.2;
      inside = λ i m. inside i (inr m);
      ahead = λ i m. other i (λ f. once (link s.links) (length s.links) slot x more few chain (subst (λ (k : ℕ). IsIn k more) (f ∙ e) m)) ∙ ahead i (inr m);
      behind = λ i m out. elim (is_same i slot) [
        | inl f ↦ subst (λ (k : ℕ). candidate_at (set candidates slot (heavier c (get_or candidates slot blank))) k ≡ loaded c (candidate s k)) (sym f)
            (ap seen (get_or-set_same candidates slot y blank (omega arith)) ∙ ap (λ (z : Candidate). loaded c z) (ahead slot (inl e)))
        | inr d ↦ other i d ∙ behind i m (λ k. elim k [ inl g ↦ d (g ∙ sym e) | inr o ↦ out o ])
      ];
      others = λ i out. other i (λ f. out (subst (λ (k : ℕ). IsIn k slots) (sym f) (inside slot (inl e)))) ∙ others i out;
    }

pub loading_next : (c : ℕ) (s : Block) (slots : List ℕ) (t u : Block) (slot slot' : ℕ) → length s.links ≤ none → slot ≢ none → IsLoading c s slots t slot → u ≡ loaded_at c t slot → slot' ≡ link t.links slot → IsLoading c s slots u slot'
loading_next c s slots t u slot slot' few some w u_is next_is =
    let e : u ≡ loaded_at c (rewritten s w.candidates) slot = u_is ∙ ap (λ (k : Block). loaded_at c k slot) w.same in
    let f : slot' ≡ link s.links slot = next_is ∙ ap (λ (k : Block). link k.links slot) w.same in
    let next : IsLoading c s slots (loaded_at c (rewritten s w.candidates) slot) (link s.links slot)
    = next_from c s slots w.candidates slot w.left few some w.long w.chain w.inside w.ahead w.behind w.others in
    subst (λ (k : Block). IsLoading c s slots k slot') (sym e) (subst (λ (k : ℕ). IsLoading c s slots (loaded_at c (rewritten s w.candidates) slot) k) (sym f) next)

-- what is left gets one slot less
trail_next : (next : ℕ → ℕ) (n slot : ℕ) (left : List ℕ) → n ≤ none → slot ≢ none → IsChain next n slot left → length (trail next n n slot) ≡ suc (length (trail next n n (next slot)))
trail_next next n slot [] few some chain = absurd (some chain)
trail_next next n slot (x ∷ more) few some chain =
    let rest : IsChain next n (next slot) more = subst (λ (k : ℕ). IsChain next n (next k) more) (sym chain.0) chain.2 in
    let a : length (trail next n n slot) ≡ length (x ∷ more) = ap (λ (l : List ℕ). length l) (trail_is next n slot (x ∷ more) few chain) in
    let b : length (trail next n n (next slot)) ≡ length more = ap (λ (l : List ℕ). length l) (trail_is next n (next slot) more few rest) in
    omega arith

pub loading_fewer : (c : ℕ) (s : Block) (slots : List ℕ) (t u : Block) (slot slot' : ℕ) → length s.links ≤ none → slot ≢ none → IsLoading c s slots t slot → u ≡ loaded_at c t slot → slot' ≡ link t.links slot
    → length (slots_of t slot) ≡ suc (length (slots_of u slot'))
loading_fewer c s slots t u slot slot' few some w u_is next_is =
    let e : u ≡ loaded_at c (rewritten s w.candidates) slot = u_is ∙ ap (λ (k : Block). loaded_at c k slot) w.same in
    let f : slot' ≡ link s.links slot = next_is ∙ ap (λ (k : Block). link k.links slot) w.same in
    let g : length (slots_of u slot') ≡ length (slots_of s (link s.links slot)) = ap (λ (l : List ℕ). length l) (ap (λ (k : Block). slots_of k slot') e ∙ ap (λ (k : ℕ). slots_of s k) f) in
    let h : length (slots_of t slot) ≡ length (slots_of s slot) = ap (λ (k : Block). length (slots_of k slot)) w.same in
    let i : length (slots_of s slot) ≡ suc (length (slots_of s (link s.links slot))) = trail_next (link s.links) (length s.links) slot w.left few some w.chain in
    omega arith

-- the next slot may be written
pub record IsLoadable (c : ℕ) (t : Block) (slot : ℕ) : Type 0 where
  pub low : slot < length t.links
  pub room : (candidate t slot).c + c ≤ 10 ^ 11

slot_in : (next : ℕ → ℕ) (n slot : ℕ) (left : List ℕ) → slot ≢ none → IsChain next n slot left → IsIn slot left × (slot < n)
slot_in next n slot [] some chain = absurd (some chain)
slot_in next n slot (x ∷ more) some chain = (inl chain.0, subst (λ (k : ℕ). k < n) (sym chain.0) chain.1)

modest_at : (c : ℕ) (s : Block) (slots : List ℕ) (i : ℕ) → AreModest (map (loaded c) (map (candidate s) slots)) → IsIn i slots → (candidate s i).c + c ≤ 10 ^ 11
modest_at c s [] i modest is_in = absurd is_in
modest_at c s (x ∷ xs) i modest (inl e) = subst (λ (k : ℕ). (candidate s k).c + c ≤ 10 ^ 11) (sym e) modest.0.load
modest_at c s (x ∷ xs) i modest (inr more) = modest_at c s xs i modest.1 more

pub loadable : (c : ℕ) (s : Block) (first : ℕ) (t : Block) (slot : ℕ) → slot ≢ none → IsLoading c s (slots_of s first) t slot → AreModest (map (loaded c) (items s first)) → IsLoadable c t slot
loadable c s first t slot some w modest =
    let (is_in, low) = slot_in (link s.links) (length s.links) slot w.left some w.chain in
    let a : (candidate s slot).c + c ≤ 10 ^ 11 = modest_at c s (slots_of s first) slot modest (w.inside slot is_in) in
    let b : (candidate_at w.candidates slot).c ≡ (candidate s slot).c = ap (λ (x : Candidate). x.c) (w.ahead slot is_in) in
    subst (λ (k : Block). IsLoadable c k slot) (sym w.same) (record { low = low; room = omega arith })

-- after the last slot
loaded_shows : (c : ℕ) (s : Block) (f : ℕ → Candidate) (slots : List ℕ) → ((i : ℕ) → IsIn i slots → f i ≡ loaded c (candidate s i)) → map f slots ≡ map (loaded c) (map (candidate s) slots)
loaded_shows c s f [] same = refl
loaded_shows c s f (x ∷ xs) same =
    let e : f x ≡ loaded c (candidate s x) = same x (inl refl) in
    let more : map f xs ≡ map (loaded c) (map (candidate s) xs) = loaded_shows c s f xs (λ y m. same y (inr m)) in
    cc

pub loading_end : (c : ℕ) (s : Block) (first last : ℕ) (xs : List Candidate) (t : Block) (slot : ℕ) → slot ≡ none → IsHeld s first last xs → IsLoading c s (slots_of s first) t slot → IsHeld t first last (map (loaded c) xs)
loading_end c s first last xs t slot e h w =
    let is_trail : slots_of s first ≡ h.slots = trail_is (link s.links) (length s.links) first h.slots h.few h.whole.chain in
    let empty : w.left ≡ [] = none_empty (link s.links) (length s.links) slot w.left h.few e w.chain in
    let none_left : (i : ℕ) → IsIn i w.left → ⊥ = λ i m. subst (λ (l : List ℕ). IsIn i l) empty m in
    let all : (i : ℕ) → IsIn i h.slots → candidate_at w.candidates i ≡ loaded c (candidate s i) = λ i m. w.behind i (subst (λ (l : List ℕ). IsIn i l) (sym is_trail) m) (none_left i) in
    subst (λ (k : Block). IsHeld k first last (map (loaded c) xs)) (sym w.same) (record {
      few = h.few;
      slots = h.slots;
      whole = h.whole;
      ends = h.ends;
      kept = h.kept;
      shows = loaded_shows c s (candidate (rewritten s w.candidates)) h.slots all
          ∙ ap (λ (l : List Candidate). map (loaded c) l) h.shows;
    })

-- the other lists stay
pub loading_others : (c : ℕ) (s : Block) (first last : ℕ) (xs : List Candidate) (t : Block) (slot : ℕ) → IsPool s → IsHeld s first last xs → IsLoading c s (slots_of s first) t slot → KeepsOthers s (first ∷ []) t (first ∷ [])
loading_others c s first last xs t slot pool h w = record {
  few = λ few. subst (λ (u : Block). length u.links ≤ none) (sym w.same) few;
  stays = λ k k_last ys other some out. subst (λ (u : Block). IsHeld u k k_last ys) (sym w.same) (record {
    few = other.few;
    slots = other.slots;
    whole = other.whole;
    ends = other.ends;
    kept = other.kept;
    shows = map_same (candidate (rewritten s w.candidates)) (candidate s) other.slots
        (stays_at k other.slots other.whole (λ d. out (inl d))) ∙ other.shows;
  });
  fresh = λ k k_last ys other some out. out;
}
  where
    stays_at : (k : ℕ) (slots : List ℕ) → IsWhole (link s.links) (length s.links) k slots → k ≢ first → (i : ℕ) → IsIn i slots → candidate_at w.candidates i ≡ candidate s i
    stays_at k slots whole differ i m =
        w.others i (apart (link s.links) (length s.links) k first slots (slots_of s first) i pool.block whole (whole_slots s first last xs h) differ m)

pub loading_spare : (c : ℕ) (s : Block) (slots : List ℕ) (t : Block) (slot : ℕ) → IsLoading c s slots t slot → spare t ≡ spare s
loading_spare c s slots t slot w = ap (λ (k : Block). spare k) w.same

-- a list has as many slots as candidates
pub held_slots : (s : Block) (first last : ℕ) (xs : List Candidate) → IsHeld s first last xs → length (slots_of s first) ≡ length xs
held_slots s first last xs h =
    sym (length-map (slots_of s first) (candidate s)) ∙ ap (λ (l : List Candidate). length l) (held_items s first last xs h)

pub left_none : (c : ℕ) (s : Block) (slots : List ℕ) (t : Block) (slot : ℕ) → slot ≡ none → length s.links ≤ none → IsLoading c s slots t slot → length (slots_of t slot) ≡ 0
left_none c s slots t slot e few w =
    let empty : w.left ≡ [] = none_empty (link s.links) (length s.links) slot w.left few e w.chain in
    ap (λ (k : Block). length (slots_of k slot)) w.same ∙ ap (λ (l : List ℕ). length l) (trail_is (link s.links) (length s.links) slot w.left few w.chain ∙ empty)
