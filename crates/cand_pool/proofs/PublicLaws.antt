-- The public calls, from the moves.
use Rattle.std.proofs.Common.{arith, ◌≡◌, ◌≢◌, ℕ, suc, ◌<◌, ◌≤◌, List, [], ◌∷◌, ◌++◌, length, map, refl, sym, ap, ◌∙◌, subst, inl, inr}
use Rattle.std.proofs.lemmas.List.{append-nil}
use Rattle.cand_pool.specs.Links.{none, link, IsChain, IsIn, last_of}
use Rattle.cand_pool.specs.Candidates.{Candidate}
use Rattle.cand_pool.specs.Pools.{Block, candidate, items, IsHeld, IsPool, IsSurePool, KeepsOthers, IsFrom, IsPlaceAt, Differ}
use Rattle.cand_pool.specs.Moves.{IsNamed, relinked, IsTaken, IsPut, IsAppended, IsDrawn, IsWritten, IsFreed, IsTagTaken}
use Rattle.cand_pool.proofs.TrailLaws.{trail_is}
use Rattle.cand_pool.proofs.PoolLaws.{none_empty, whole_none}
use Rattle.cand_pool.proofs.PoolMoves.{put, keeps_then}
use Rattle.cand_pool.proofs.PoolSlots.{one_slot, IsOne}
use Rattle.cand_pool.proofs.MoveLaws.{is_same}

-- a list is one sequence, that of the map
pub held_items : (s : Block) (first last : ℕ) (xs : List Candidate) → IsHeld s first last xs → items s first ≡ xs
held_items s first last xs h =
    ap (λ (l : List ℕ). map (candidate s) l) (trail_is (link s.links) (length s.links) first h.slots h.few h.whole.chain) ∙ h.shows

pub held_named : (s : Block) (first last : ℕ) (xs : List Candidate) → IsHeld s first last xs → IsNamed s first last
held_named s first last xs h = subst (λ (l : List Candidate). IsHeld s first last l) (sym (held_items s first last xs h)) h

-- an empty list is no candidate
pub none_holds : (s : Block) (first last : ℕ) (xs : List Candidate) → first ≡ none → IsHeld s first last xs → xs ≡ []
none_holds s first last xs e h = sym h.shows ∙ ap (λ (l : List ℕ). map (candidate s) l) (none_empty (link s.links) (length s.links) first h.slots h.few e h.whole.chain)

-- a list without a candidate has no first slot
pub nothing_held : (s : Block) (first last : ℕ) → IsHeld s first last [] → first ≡ none
nothing_held s first last h = no_slots h.slots h.whole.chain h.shows where
  no_slots : (slots : List ℕ) → IsChain (link s.links) (length s.links) first slots → map (candidate s) slots ≡ [] → first ≡ none
  no_slots [] chain shows = chain
  no_slots (slot ∷ slots) chain shows = absurd (cc)

-- the empty list
pub empty_held : (s : Block) (first last : ℕ) → length s.links ≤ none → first ≡ none → IsHeld s first last []
empty_held s first last few e = record { few = few; slots = []; whole = whole_none (link s.links) (length s.links) first e; ends = λ some. absurd (some e); kept = λ _. e; shows = refl }

pub append_none : (s : Block) (a a_last b b_last : ℕ) → b ≡ none → IsAppended s a a_last b b_last s a a_last
append_none s a a_last b b_last e = record {
  joined = λ xs ys one two. let f : ys ≡ [] = none_holds s b b_last ys e two in rw (f, append-nil) one;
  others = record { few = λ few. few; stays = λ first last xs h some out. h; fresh = λ first last xs h some out is_new. elim is_new [ inl m ↦ out (inl m) | inr z ↦ z ] };
  free = refl;
}

pub append_to_none : (s : Block) (a a_last b b_last : ℕ) → a ≡ none → IsAppended s a a_last b b_last s b b_last
append_to_none s a a_last b b_last e = record {
  joined = λ xs ys one two. let f : xs ≡ [] = none_holds s a a_last xs e one in rw f two;
  others = record { few = λ few. few; stays = λ first last xs h some out. h; fresh = λ first last xs h some out is_new. elim is_new [ inl m ↦ out (inr (inl m)) | inr z ↦ z ] };
  free = refl;
}

pub append_both : (s : Block) (a a_last b b_last : ℕ) → IsPool s → IsNamed s a a_last → IsNamed s b b_last → a ≢ none → b ≢ none → a ≢ b → IsAppended s a a_last b b_last (relinked s a_last b s.free) a b_last
append_both s a a_last b b_last pool one two some_a some_b differ =
    let p : IsPut s a b b_last (items s a) (items s b) (relinked s a_last b s.free) = put s a a_last b b_last (items s a) (items s b) pool one two some_a some_b differ in
    record {
      joined = λ xs ys h k. let q : IsPut s a b b_last xs ys (relinked s a_last b s.free) = put s a a_last b b_last xs ys pool h k some_a some_b differ in q.whole;
      others = p.others;
      free = p.free;
    }

pub append_sure : (s : Block) (sure a a_last b b_last : ℕ) → IsSurePool s sure → IsNamed s a a_last → IsNamed s b b_last → a ≢ none → b ≢ none → a ≢ b
    → IsSurePool (relinked s a_last b s.free) sure
append_sure s sure a a_last b b_last at one two some_a some_b differ =
    let p : IsPut s a b b_last (items s a) (items s b) (relinked s a_last b s.free)
    = put s a a_last b b_last (items s a) (items s b) at.pool one two some_a some_b differ in
    record { pool = p.pool; free = omega (arith, p.free, at.free) }

pub append_low : (s : Block) (a a_last : ℕ) → IsPool s → IsNamed s a a_last → a ≢ none → a_last < length s.links
append_low s a a_last pool one some = low_from s a a_last one.slots one.whole.chain (one.ends some) some
  where
    low_last : (next : ℕ → ℕ) (n first x : ℕ) (xs : List ℕ) → IsChain next n first (x ∷ xs) → last_of x xs < n
    low_last next n first x [] chain = chain.1
    low_last next n first x (y ∷ ys) chain = low_last next n (next x) y ys chain.2

    low_from : (s : Block) (a a_last : ℕ) (slots : List ℕ) → IsChain (link s.links) (length s.links) a slots → last_of none slots ≡ a_last → a ≢ none → a_last < length s.links
    low_from s a a_last [] chain e some = absurd (some chain)
    low_from s a a_last (x ∷ xs) chain e some = subst (λ (k : ℕ). k < length s.links) e (low_last (link s.links) (length s.links) a x xs chain)

-- a list of one, by its slot
pub one_held : (s : Block) (first last : ℕ) (x : Candidate) → IsHeld s first last (x ∷ []) → IsHeld s first first (candidate s first ∷ [])
one_held s first last x h =
    let one : IsOne s first x h.slots = one_slot s first last x h in
    record { few = h.few; slots = first ∷ []; whole = one.whole; ends = λ _. refl; kept = h.kept; shows = refl }

-- what a call that names another list too keeps
pub keeps_with : (s t : Block) (k : ℕ) (old new : List ℕ) → KeepsOthers s old t new → KeepsOthers s (k ∷ old) t (k ∷ new)
keeps_with s t k old new keeps = record {
  few = keeps.few;
  stays = λ first last xs h some out. keeps.stays first last xs h some (λ m. out (inr m));
  fresh = λ first last xs h some out is_new. elim is_new [ inl e ↦ out (inl e) | inr m ↦ keeps.fresh first last xs h some (λ m. out (inr m)) m ];
}

-- a list that is not named stays, also the empty one
pub stays_any : (s t : Block) (old new : List ℕ) (first last : ℕ) (xs : List Candidate) → KeepsOthers s old t new → length t.links ≤ none → (first ≢ none → IsIn first old → ⊥) → IsHeld s first last xs → IsHeld t first last xs
stays_any s t old new first last xs keeps few out h =
    elim (is_same first none) [
      | inl e ↦ let f : xs ≡ [] = none_holds s first last xs e h in rw f (empty_held t first last few e)
      | inr some ↦ keeps.stays first last xs h some (out some)
    ]

-- the same, where the slots were few enough
pub stays : (s t : Block) (old new : List ℕ) (first last : ℕ) (xs : List Candidate) → KeepsOthers s old t new → (first ≢ none → IsIn first old → ⊥) → IsHeld s first last xs → IsHeld t first last xs
stays s t old new first last xs keeps out h = stays_any s t old new first last xs keeps (keeps.few h.few) out h

-- a slot is drawn and written
pub made : (s t u : Block) (slot : ℕ) → slot ≡ s.free → IsDrawn s t → IsWritten t slot u → KeepsOthers s [] u (slot ∷ [])
made s t u slot e drawn written =
    keeps_then s t u [] (slot ∷ []) (slot ∷ []) (slot ∷ []) (slot ∷ []) (subst (λ (k : ℕ). KeepsOthers s [] t (k ∷ [])) (sym e) drawn.others) written.others (λ k m. m) (λ k m. inl m)

-- a list of one is put after a list
pub pushed : (s t u : Block) (list last one one_last first' last' : ℕ) (xs : List Candidate) (x : Candidate) → KeepsOthers s [] t (one ∷ []) → IsHeld t one one_last (x ∷ []) → IsAppended t list last one one_last u first' last'
    → IsHeld s list last xs → IsHeld u first' last' (xs ++ (x ∷ []))
pushed s t u list last one one_last first' last' xs x keeps is_one appended h =
    appended.joined xs (x ∷ []) (stays_any s t [] (one ∷ []) list last xs keeps is_one.few (λ some m. m) h) is_one

pub pushed_others : (s t u : Block) (list last one one_last first' last' : ℕ) → KeepsOthers s [] t (one ∷ []) → IsAppended t list last one one_last u first' last' → KeepsOthers s (list ∷ []) u (first' ∷ [])
pushed_others s t u list last one one_last first' last' keeps appended =
    keeps_then s t u (list ∷ []) (list ∷ one ∷ []) (list ∷ one ∷ []) (first' ∷ []) (first' ∷ []) (keeps_with s t list [] (one ∷ []) keeps) appended.others (λ k m. m) (λ k m. inl m)

-- the place after a place
next_from : (s : Block) (slot : ℕ) (slots : List ℕ) (x : Candidate) (xs : List Candidate) → length s.links ≤ none → IsChain (link s.links) (length s.links) slot slots → map (candidate s) slots ≡ x ∷ xs
    → IsFrom s (link s.links slot) xs × (slot < length s.links)
next_from s slot [] x xs few chain shows = absurd (cc)
next_from s slot (y ∷ ys) x xs few chain shows =
    let e : map (candidate s) ys ≡ xs = cc in
    (record { few = few; slots = ys; chain = subst (λ (k : ℕ). IsChain (link s.links) (length s.links) (link s.links k) ys) (sym chain.0) chain.2; shows = e }, subst (λ (k : ℕ). k < length s.links) (sym chain.0) chain.1)

pub next_place : (s : Block) (slot : ℕ) (x : Candidate) (xs : List Candidate) → IsPlaceAt s slot (x ∷ xs) → IsFrom s (link s.links slot) xs
next_place s slot x xs place = (next_from s slot place.from.slots x xs place.from.few place.from.chain place.from.shows).0

place_low_from : (s : Block) (slot : ℕ) (slots : List ℕ) (xs : List Candidate) → IsChain (link s.links) (length s.links) slot slots → map (candidate s) slots ≡ xs → xs ≢ [] → slot < length s.links
place_low_from s slot [] xs chain shows some = absurd (some (sym shows))
place_low_from s slot (y ∷ ys) xs chain shows some = subst (λ (k : ℕ). k < length s.links) (sym chain.0) chain.1

pub place_low : (s : Block) (slot : ℕ) (xs : List Candidate) → IsPlaceAt s slot xs → slot < length s.links
place_low s slot xs place = place_low_from s slot place.from.slots xs place.from.chain place.from.shows place.some

-- a place that is none is past the end, and another one is not
pub from_none : (s : Block) (slot : ℕ) (xs : List Candidate) → slot ≡ none → IsFrom s slot xs → xs ≡ []
from_none s slot xs e from = sym from.shows ∙ ap (λ (l : List ℕ). map (candidate s) l) (none_empty (link s.links) (length s.links) slot from.slots from.few e from.chain)

some_from : (s : Block) (slot : ℕ) (slots : List ℕ) (xs : List Candidate) → slot ≢ none → IsChain (link s.links) (length s.links) slot slots → map (candidate s) slots ≡ xs → xs ≢ []
some_from s slot [] xs some chain shows = absurd (some chain)
some_from s slot (y ∷ ys) xs some chain shows = λ e. let f : map (candidate s) (y ∷ ys) ≡ [] = shows ∙ e in absurd (cc)

pub from_some : (s : Block) (slot : ℕ) (xs : List Candidate) → slot ≢ none → IsFrom s slot xs → IsPlaceAt s slot xs
from_some s slot xs some from = record { from = from; some = some_from s slot from.slots xs some from.chain from.shows }

pub held_from : (s : Block) (first last : ℕ) (xs : List Candidate) → IsHeld s first last xs → IsFrom s first xs
held_from s first last xs h = record { few = h.few; slots = h.slots; chain = h.whole.chain; shows = h.shows }

-- a list that is not empty has a first candidate
pub first_from : (s : Block) (first : ℕ) (slots : List ℕ) (xs : List Candidate) → first ≢ none → IsChain (link s.links) (length s.links) first slots → map (candidate s) slots ≡ xs → (ys : List Candidate) × (xs ≡ candidate s first ∷ ys)
first_from s first [] xs some chain shows = absurd (some chain)
first_from s first (y ∷ ys) xs some chain shows = (map (candidate s) ys, sym shows ∙ ap (λ (k : ℕ). candidate s k ∷ map (candidate s) ys) (sym chain.0))

pub first_held : (s : Block) (first last : ℕ) (xs : List Candidate) → first ≢ none → IsHeld s first last xs → (ys : List Candidate) × (xs ≡ candidate s first ∷ ys)
first_held s first last xs some h = first_from s first h.slots xs some h.whole.chain h.shows

-- a slot was cut off a bag and given back
pub bag_taken : (s t u : Block) (first last rest : ℕ) (x : Candidate) (xs : List Candidate) → IsTaken s first last x xs t rest → IsFreed t first u → IsTagTaken s first last x xs u rest last
bag_taken s t u first last rest x xs taken freed = record {
  bag = elim (is_same rest none) [
    | inl e ↦ let f : xs ≡ [] = none_holds t rest last xs e taken.more in rw f (empty_held u rest last freed.pool.block.few e)
    | inr some ↦ freed.others.stays rest last xs taken.more some (λ m. elim m [ inl e ↦ taken.differ (sym e) | inr z ↦ z ])
  ];
  others = keeps_then s t u (first ∷ []) (first ∷ rest ∷ []) (first ∷ []) [] (rest ∷ []) taken.others freed.others
      (λ k m. elim m [ inl e ↦ inl e | inr z ↦ absurd z ])
      (λ k m. elim m [ inl e ↦ inr (inr (inl e)) | inr z ↦ absurd z ]);
  free = freed.free ∙ ap (λ (n : ℕ). suc n) taken.free;
}

place_shows : (s : Block) (slot : ℕ) (slots : List ℕ) (x : Candidate) (xs : List Candidate) → IsChain (link s.links) (length s.links) slot slots → map (candidate s) slots ≡ x ∷ xs → candidate s slot ≡ x
place_shows s slot [] x xs chain shows = absurd (cc)
place_shows s slot (y ∷ ys) x xs chain shows = let e : candidate s y ≡ x = cc in ap (λ (k : ℕ). candidate s k) chain.0 ∙ e

-- the candidate of a place
pub place_is : (s : Block) (slot : ℕ) (x : Candidate) (xs : List Candidate) → IsPlaceAt s slot (x ∷ xs) → candidate s slot ≡ x
place_is s slot x xs place = place_shows s slot place.from.slots x xs place.from.chain place.from.shows

-- from none on there is nothing
pub none_items : (s : Block) (first : ℕ) → first ≡ none → length s.links ≤ none → items s first ≡ []
none_items s first e few = held_items s first none [] (empty_held s first none few e)

pub differ_from : (a b : ℕ) → (a ≢ none → a ≢ b) → Differ a b
differ_from a b apart e = elim (is_same a none) [ inl z ↦ z | inr some ↦ absurd (apart some e) ]
