-- The moves of links as moves of lists in a pool.
use Rattle.std.proofs.Common.{◌≡◌, ◌≢◌, ℕ, ◌<◌, ◌≤◌, List, [], ◌∷◌, length, map, set, refl, sym, ap, ◌∙◌, subst, arith, inl, inr, length-set}
use Rattle.std.proofs.lemmas.List.{get_or-set_same, get_or-set_other}
use Rattle.cand_pool.specs.Links.{none, link, IsChain, IsIn, last_of, AreLinks, IsWhole, IsRelinked, Keeps}
use Rattle.cand_pool.specs.Candidates.{Candidate}
use Rattle.cand_pool.specs.Pools.{Block, candidate, slots_of, IsHeld, IsPool, KeepsOthers}
use Rattle.cand_pool.specs.Moves.{relinked, IsTaken}
use Rattle.cand_pool.proofs.MoveLaws.{is_same, cut, IsCut}
use Rattle.cand_pool.proofs.TrailLaws.{trail_is}

pub relink : (links : List ℕ) (at to : ℕ) → at < length links → IsRelinked (link links) at to (link (set links at to))
relink links at to low = record { here = get_or-set_same links at to none low; others = λ i d. get_or-set_other links at i to none d }

-- the empty chain is whole, and a chain from none is empty
pub whole_none : (next : ℕ → ℕ) (n first : ℕ) → first ≡ none → IsWhole next n first []
whole_none next n first e = record { chain = e; top = λ s. absurd (s e) }

pub none_empty : (next : ℕ → ℕ) (n first : ℕ) (slots : List ℕ) → n ≤ none → first ≡ none → IsChain next n first slots → slots ≡ []
none_empty next n first [] few e chain = refl
none_empty next n first (x ∷ xs) few e chain = let low : x < n = chain.1 in let f : first ≡ x = chain.0 in absurd (omega arith)

pub some_low : (next : ℕ → ℕ) (n first : ℕ) (slots : List ℕ) → first ≢ none → IsChain next n first slots → first < n
some_low next n first [] s chain = absurd (s chain)
some_low next n first (x ∷ xs) s chain = subst (λ (k : ℕ). k < n) (sym chain.0) chain.1

pub whole_stays : (next : ℕ → ℕ) (n : ℕ) (old : List ℕ) (next' : ℕ → ℕ) (n' : ℕ) (new : List ℕ) (k : ℕ) (slots : List ℕ) → n ≤ none → Keeps next n old next' n' new → IsWhole next n k slots
    → (k ≢ none → IsIn k old → ⊥) → IsWhole next' n' k slots
whole_stays next n old next' n' new k slots few keeps whole out =
    elim (is_same k none) [
      | inl e ↦ subst (λ (l : List ℕ). IsWhole next' n' k l) (sym (none_empty next n k slots few e whole.chain)) (whole_none next' n' k e)
      | inr s ↦ keeps.stays k slots whole s (out s)
    ]

-- a whole chain of the block as it is after one link changed
pub whole_at : (links : List ℕ) (at to first : ℕ) (slots : List ℕ) → IsWhole (link (set links at to)) (length links) first slots → IsWhole (link (set links at to)) (length (set links at to)) first slots
whole_at links at to first slots whole = subst (λ (n : ℕ). IsWhole (link (set links at to)) n first slots) (sym (length-set links at to)) whole

block_at : (links : List ℕ) (at to : ℕ) → AreLinks (link (set links at to)) (length links) → AreLinks (link (set links at to)) (length (set links at to))
block_at links at to block = subst (λ (n : ℕ). AreLinks (link (set links at to)) n) (sym (length-set links at to)) block

pub few_relinked : (links : List ℕ) (at to : ℕ) → length links ≤ none → length (set links at to) ≤ none
few_relinked links at to few = subst (λ (n : ℕ). n ≤ none) (sym (length-set links at to)) few

pub keeps_relinked : (s : Block) (at to free : ℕ) (old new : List ℕ) → Keeps (link s.links) (length s.links) old (link (set s.links at to)) (length s.links) new
    → ((k : ℕ) (slots : List ℕ) → IsWhole (link s.links) (length s.links) k slots → k ≢ none → (IsIn k old → ⊥) → k ≢ s.free → k ≢ free)
    → KeepsOthers s old (relinked s at to free) new
keeps_relinked s at to free old new keeps apart_free = record {
  few = few_relinked s.links at to;
  stays = λ first last xs h some out. record {
    few = few_relinked s.links at to h.few;
    slots = h.slots;
    whole = whole_at s.links at to first h.slots (keeps.stays first h.slots h.whole some out);
    ends = h.ends;
    kept = λ e. absurd (apart_free first h.slots h.whole some out (λ f. some (h.kept f)) e);
    shows = h.shows;
  };
  fresh = λ first last xs h some out. keeps.fresh first h.slots h.whole some out;
}

-- the pool after one link changed, with the free slots that it then has
pub pool_relinked : (s : Block) (at to free : ℕ) (slots : List ℕ) → IsPool s → AreLinks (link (set s.links at to)) (length s.links) → IsWhole (link (set s.links at to)) (length s.links) free slots
    → IsPool (relinked s at to free) × (slots_of (relinked s at to free) free ≡ slots)
pool_relinked s at to free slots pool block whole =
    let same : length (set s.links at to) ≡ length s.links = length-set s.links at to in
    let block' : AreLinks (link (set s.links at to)) (length (set s.links at to)) = block_at s.links at to block in
    let whole' : IsWhole (link (set s.links at to)) (length (set s.links at to)) free slots = whole_at s.links at to free slots whole in
    let e : slots_of (relinked s at to free) free ≡ slots = trail_is (link (set s.links at to)) (length (set s.links at to)) free slots block'.few whole'.chain in (
      record {
        block = block';
        all = subst (λ (k : ℕ). k ≤ length s.candidates) (sym same) pool.all;
        free = subst (λ (l : List ℕ). IsWhole (link (set s.links at to)) (length (set s.links at to)) free l) (sym e) whole';
      },
      e,
    )

-- the last slot does not depend on what stands before a chain that is not empty
pub last_same : (next : ℕ → ℕ) (n first y before last : ℕ) (ys : List ℕ) → first ≢ none → IsChain next n first ys → last_of y ys ≡ last → last_of before ys ≡ last
last_same next n first y before last [] some chain e = absurd (some chain)
last_same next n first y before last (x ∷ ys) some chain e = e

-- a first slot is cut off a list
take_slots : (s : Block) (first last y : ℕ) (ys : List ℕ) (x : Candidate) (xs : List Candidate) → IsPool s → IsWhole (link s.links) (length s.links) first (y ∷ ys) → (first ≢ none → last_of y ys ≡ last)
    → (first ≡ s.free → first ≡ none) → candidate s y ≡ x → map (candidate s) ys ≡ xs → IsTaken s first last x xs (relinked s first none s.free) (link s.links first)
take_slots s first last y ys x xs pool whole ends kept shows_x shows_xs =
    let few : length s.links ≤ none = pool.block.few in
    let same : first ≡ y = whole.chain.0 in
    let low : y < length s.links = whole.chain.1 in
    let low_first : first < length s.links = omega arith in
    let some : first ≢ none = λ (z : first ≡ none). absurd (omega arith) in
    let whole' : IsWhole (link s.links) (length s.links) first (first ∷ ys) = subst (λ (k : ℕ). IsWhole (link s.links) (length s.links) first (k ∷ ys)) (sym same) whole in
    let is_cut : IsCut (link s.links) (length s.links) first ys (link (set s.links first none)) = cut (link s.links) (link (set s.links first none)) (length s.links) first ys pool.block whole' (relink s.links first none low_first) in
    let free : IsWhole (link (set s.links first none)) (length s.links) s.free (slots_of s s.free)
    = whole_stays (link s.links) (length s.links) (first ∷ []) (link (set s.links first none)) (length s.links) (first ∷ link s.links first ∷ []) s.free (slots_of s s.free) few is_cut.others pool.free
    (λ (z : s.free ≢ none) is_first. elim is_first [ inl e ↦ z (e ∙ kept (sym e)) | inr none_of ↦ none_of ]) in
    let (pool', free_is) = pool_relinked s first none s.free (slots_of s s.free) pool is_cut.block free in
    record {
      pool = pool';
      one = record {
        few = few_relinked s.links first none few;
        slots = first ∷ [];
        whole = whole_at s.links first none first (first ∷ []) is_cut.one;
        ends = λ _. refl;
        kept = kept;
        shows = ap (λ (i : ℕ). candidate s i ∷ []) same ∙ ap (λ (c : Candidate). c ∷ []) shows_x;
      };
      more = record {
        few = few_relinked s.links first none few;
        slots = ys;
        whole = whole_at s.links first none (link s.links first) ys is_cut.rest;
        ends = λ z. last_same (link (set s.links first none)) (length s.links) (link s.links first) y none last ys z is_cut.rest.chain (ends some);
        kept = λ e. elim (is_same (link s.links first) none) [ inl z ↦ z | inr z ↦ absurd (pool.free.top (λ f. z (e ∙ f)) first e) ];
        shows = shows_xs;
      };
      differ = λ e. whole.top some first (sym e);
      others = keeps_relinked s first none s.free (first ∷ []) (first ∷ link s.links first ∷ []) is_cut.others (λ k slots w some_k out not_free. not_free);
      free = ap (λ (l : List ℕ). length l) free_is;
    }

pub take : (s : Block) (first last : ℕ) (x : Candidate) (xs : List Candidate) → IsPool s → IsHeld s first last (x ∷ xs) → IsTaken s first last x xs (relinked s first none s.free) (link s.links first)
take s first last x xs pool h = take_from s first last x xs pool h.slots h.whole h.ends h.kept h.shows
  where
    take_from : (s : Block) (first last : ℕ) (x : Candidate) (xs : List Candidate) → IsPool s → (slots : List ℕ) → IsWhole (link s.links) (length s.links) first slots → (first ≢ none → last_of none slots ≡ last)
        → (first ≡ s.free → first ≡ none) → map (candidate s) slots ≡ x ∷ xs → IsTaken s first last x xs (relinked s first none s.free) (link s.links first)
    take_from s first last x xs pool [] whole ends kept shows = absurd (cc)
    take_from s first last x xs pool (y ∷ ys) whole ends kept shows =
        let e : candidate s y ≡ x = cc in
        let f : map (candidate s) ys ≡ xs = cc in
        take_slots s first last y ys x xs pool whole ends kept e f
