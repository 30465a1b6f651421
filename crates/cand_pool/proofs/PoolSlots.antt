-- A slot is given back or written; the block grows.
use Rattle.std.proofs.Common.{◌≡◌, ◌≢◌, ℕ, zero, suc, ◌<◌, ◌≤◌, List, [], ◌∷◌, ◌++◌, length, map, get_or, set, refl, sym, ap, ◌∙◌, subst, arith, inl, inr, length-set, length-append}
use Rattle.std.proofs.lemmas.List.{get_or-set_same, get_or-set_other, get_or_default}
use Rattle.std.proofs.Math.ListN.{get_or-append}
use Rattle.cand_pool.specs.Links.{none, link, IsChain, IsIn, AreLinks, IsWhole, IsRelinked}
use Rattle.cand_pool.specs.Candidates.{Candidate}
use Rattle.cand_pool.specs.declared.numbers.Numbers.{Numbers}
use Rattle.cand_pool.specs.Pools.{Block, seen, blank, candidate, slots_of, IsHeld, IsPool, KeepsOthers}
use Rattle.cand_pool.specs.Moves.{relinked, IsFreed, rewritten, IsWritten, grown, IsGrown}
use Rattle.cand_pool.proofs.LinkLaws.{apart}
use Rattle.cand_pool.proofs.MoveLaws.{is_same, cut, IsCut, join, IsJoined}
use Rattle.cand_pool.proofs.TrailLaws.{trail_is}
use Rattle.cand_pool.proofs.PoolLaws.{relink, some_low, keeps_relinked, pool_relinked}

free_slots : (s : Block) (first : ℕ) (slots : List ℕ) → slots_of s s.free ≡ slots → IsPool s → IsWhole (link s.links) (length s.links) s.free slots → IsWhole (link s.links) (length s.links) first (first ∷ []) → first < length s.links → (first ≡ s.free → first ≡ none) → first ≢ none
    → IsFreed s first (relinked s first s.free first)
free_slots s first [] slots_are pool free one low kept some =
    let empty : s.free ≡ none = free.chain in
    let is_cut : IsCut (link s.links) (length s.links) first [] (link (set s.links first s.free)) = cut (link s.links) (link (set s.links first s.free)) (length s.links) first [] pool.block one
    (subst (λ (k : ℕ). IsRelinked (link s.links) first k (link (set s.links first s.free))) empty (relink s.links first s.free low)) in
    let (pool', free_is) = pool_relinked s first s.free first (first ∷ []) pool is_cut.block is_cut.one in
    let others : KeepsOthers s (first ∷ []) (relinked s first s.free first) (first ∷ link s.links first ∷ [])
    = keeps_relinked s first s.free first (first ∷ []) (first ∷ link s.links first ∷ []) is_cut.others (λ k slots w some_k out not_free e. out (inl e)) in
    record {
      pool = pool';
      others = record { few = others.few; stays = λ f l xs h s_f out. others.stays f l xs h s_f out; fresh = λ f l xs h s_f out is_new. is_new };
      free = ap (λ (l : List ℕ). length l) free_is ∙ ap (λ (l : List ℕ). suc (length l)) (sym slots_are);
    }
free_slots s first (y ∷ ys) slots_are pool free one low kept some =
    let is_joined : IsJoined (link s.links) (length s.links) first (first ∷ []) s.free (y ∷ ys) (link (set s.links first s.free))
    = join (link s.links) (link (set s.links first s.free)) (length s.links) first first [] s.free y ys pool.block one free (λ e. some (kept e)) (relink s.links first s.free low) in
    let (pool', free_is) = pool_relinked s first s.free first (first ∷ y ∷ ys) pool is_joined.block is_joined.whole in
    let others : KeepsOthers s (first ∷ s.free ∷ []) (relinked s first s.free first) (first ∷ [])
    = keeps_relinked s first s.free first (first ∷ s.free ∷ []) (first ∷ []) is_joined.others (λ k slots w some_k out not_free e. out (inl e)) in
    record {
      pool = pool';
      others = record {
        few = others.few;
        stays = λ f l xs h s_f out. others.stays f l xs h s_f (λ is_old. elim is_old [ inl e ↦ out (inl e) | inr (inl e) ↦ s_f (h.kept e) | inr (inr none_of) ↦ none_of ]);
        fresh = λ f l xs h s_f out is_new. is_new;
      };
      free = ap (λ (l : List ℕ). length l) free_is ∙ ap (λ (l : List ℕ). suc (length l)) (sym slots_are);
    }

-- the one slot of a list of one
pub record IsOne (s : Block) (first : ℕ) (x : Candidate) (slots : List ℕ) : Type 0 where
  pub alone : slots ≡ first ∷ []
  pub whole : IsWhole (link s.links) (length s.links) first (first ∷ [])
  pub low : first < length s.links
  pub some : first ≢ none
  pub shows : candidate s first ≡ x

one_from : (s : Block) (first : ℕ) (x : Candidate) (slots : List ℕ) → length s.links ≤ none → IsWhole (link s.links) (length s.links) first slots → map (candidate s) slots ≡ x ∷ [] → IsOne s first x slots
one_from s first x [] few whole shows = absurd (cc)
one_from s first x (y ∷ []) few whole shows =
    let same : first ≡ y = whole.chain.0 in
    let low_y : y < length s.links = whole.chain.1 in
    let low : first < length s.links = subst (λ (k : ℕ). k < length s.links) (sym same) low_y in
    let e : candidate s y ≡ x = cc in
    record {
      alone = ap (λ (k : ℕ). k ∷ []) (sym same);
      whole = subst (λ (k : ℕ). IsWhole (link s.links) (length s.links) first (k ∷ [])) (sym same) whole;
      low = low;
      some = λ (z : first ≡ none). absurd (omega arith);
      shows = ap (λ (k : ℕ). candidate s k) same ∙ e;
    }
one_from s first x (y ∷ z ∷ zs) few whole shows =
    let e : map (candidate s) (z ∷ zs) ≡ [] = cc in absurd (cc)

pub one_slot : (s : Block) (first last : ℕ) (x : Candidate) → (h : IsHeld s first last (x ∷ [])) → IsOne s first x h.slots
one_slot s first last x h = one_from s first x h.slots h.few h.whole h.shows

-- the slot of a list of one is free again
pub give : (s : Block) (first last : ℕ) (x : Candidate) → IsPool s → IsHeld s first last (x ∷ []) → IsFreed s first (relinked s first s.free first)
give s first last x pool h =
    let one : IsOne s first x h.slots = one_slot s first last x h in
    free_slots s first (slots_of s s.free) refl pool pool.free one.whole one.low h.kept one.some

pub map_same : (f g : ℕ → Candidate) (slots : List ℕ) → ((x : ℕ) → IsIn x slots → f x ≡ g x) → map f slots ≡ map g slots
map_same f g [] same = refl
map_same f g (x ∷ xs) same =
    let e : f x ≡ g x = same x (inl refl) in
    let more : map f xs ≡ map g xs = map_same f g xs (λ y m. same y (inr m)) in
    cc

-- the slot of a list of one holds another candidate
pub write : (s : Block) (first last : ℕ) (x : Candidate) (y : Numbers) → IsPool s → IsHeld s first last (x ∷ []) → IsWritten s first (rewritten s (set s.candidates first y))
write s first last x y pool h =
    let one : IsOne s first x h.slots = one_slot s first last x h in
    record {
      pool = record { block = pool.block; all = rw (length-set s.candidates first y) pool.all; free = pool.free };
      one = record { few = h.few; slots = first ∷ []; whole = one.whole; ends = λ _. refl; kept = h.kept; shows = refl };
      others = record {
        few = λ few. few;
        stays = λ k k_last xs other some out. record {
          few = other.few;
          slots = other.slots;
          whole = other.whole;
          ends = other.ends;
          kept = other.kept;
          shows = map_same (candidate (rewritten s (set s.candidates first y))) (candidate s) other.slots
              (λ i m. ap seen (get_or-set_other s.candidates first i y blank
              (λ e. apart (link s.links) (length s.links) k first other.slots (first ∷ []) i pool.block other.whole one.whole (λ d. out (inl d)) m (inl e)))) ∙ other.shows;
        };
        fresh = λ k k_last xs other some out. out;
      };
      free = refl;
    }

-- the links of a block that has one slot more are those that it had
link_more : (links : List ℕ) (i : ℕ) → link (links ++ none ∷ []) i ≡ link links i
link_more [] zero = refl
link_more [] (suc i) = refl
link_more (x ∷ links) zero = refl
link_more (x ∷ links) (suc i) = link_more links i

chain_wider : (next next' : ℕ → ℕ) (n n' first : ℕ) (slots : List ℕ) → ((i : ℕ) → next' i ≡ next i) → n ≤ n' → IsChain next n first slots → IsChain next' n' first slots
chain_wider next next' n n' first [] same wider chain = chain
chain_wider next next' n n' first (x ∷ xs) same wider chain =
    let low : x < n = chain.1 in
    (chain.0, omega arith, subst (λ (k : ℕ). IsChain next' n' k xs) (sym (same x)) (chain_wider next next' n n' (next x) xs same wider chain.2))

whole_wider : (next next' : ℕ → ℕ) (n n' first : ℕ) (slots : List ℕ) → ((i : ℕ) → next' i ≡ next i) → n ≤ n' → IsWhole next n first slots → IsWhole next' n' first slots
whole_wider next next' n n' first slots same wider whole = record { chain = chain_wider next next' n n' first slots same wider whole.chain; top = λ s i e. whole.top s i (sym (same i) ∙ e) }

in_low : (next : ℕ → ℕ) (n first : ℕ) (slots : List ℕ) (x : ℕ) → IsChain next n first slots → IsIn x slots → x < n
in_low next n first [] x chain is_in = absurd is_in
in_low next n first (y ∷ ys) x chain (inl e) = subst (λ (k : ℕ). k < n) (sym e) chain.1
in_low next n first (y ∷ ys) x chain (inr more) = in_low next n (next y) ys x chain.2 more

-- more candidates behind the others change no slot of the block
widened : (s : Block) (more : List Numbers) (k : ℕ) (slots : List ℕ) → IsPool s → IsChain (link s.links) (length s.links) k slots → map (candidate (rewritten s (s.candidates ++ more))) slots ≡ map (candidate s) slots
widened s more k slots pool chain = map_same (candidate (rewritten s (s.candidates ++ more))) (candidate s) slots (λ y y_in.
    let low : y < length s.links = in_low (link s.links) (length s.links) k slots y chain y_in in
    let all : length s.links ≤ length s.candidates = pool.all in
    ap seen (get_or-append s.candidates more blank y (omega arith)))

pub grow : (s : Block) → IsPool s → length s.links < none → IsGrown s (grown s)
grow s pool room =
    let next : ℕ → ℕ = link s.links in
    let next' : ℕ → ℕ = link (s.links ++ none ∷ []) in
    let n : ℕ = length s.links in
    let n' : ℕ = length (s.links ++ none ∷ []) in
    let wide : length (s.links ++ none ∷ []) ≡ suc (length s.links) = length-append s.links (none ∷ []) ∙ omega arith in
    let wider : length s.links ≤ length (s.links ++ none ∷ []) = omega arith in
    let same : (i : ℕ) → link (s.links ++ none ∷ []) i ≡ link s.links i = λ i. link_more s.links i in
    let block' : AreLinks (link (s.links ++ none ∷ [])) (length (s.links ++ none ∷ [])) = record {
      few = omega arith;
      single = λ i j e z. pool.block.single i j (sym (same i) ∙ e ∙ same j) (λ f. z (same i ∙ f));
      inside = λ i z. let low : link s.links i < length s.links = pool.block.inside i (λ f. z (same i ∙ f)) in let e : link (s.links ++ none ∷ []) i ≡ link s.links i = same i in omega arith;
      outside = λ i out. same i ∙ pool.block.outside i (omega arith);
    } in
    let free' : IsWhole (link (s.links ++ none ∷ [])) (length (s.links ++ none ∷ [])) s.free (slots_of s s.free)
    = whole_wider (link s.links) (link (s.links ++ none ∷ [])) (length s.links) (length (s.links ++ none ∷ [])) s.free (slots_of s s.free) same wider pool.free in
    let free_is : slots_of (grown s) s.free ≡ slots_of s s.free
    = trail_is (link (s.links ++ none ∷ [])) (length (s.links ++ none ∷ [])) s.free (slots_of s s.free) block'.few free'.chain in
    let all : length s.links ≤ length s.candidates = pool.all in
    let all_wide : length (s.candidates ++ blank ∷ []) ≡ suc (length s.candidates) = length-append s.candidates (blank ∷ []) ∙ omega arith in
    let some : length s.links ≢ none = λ (z : length s.links ≡ none). absurd (omega arith) in
    let new_top : (i : ℕ) → link (s.links ++ none ∷ []) i ≢ length s.links = λ i e.
    let low : link s.links i < length s.links = pool.block.inside i (λ f. some (sym e ∙ same i ∙ f)) in
    let f : link (s.links ++ none ∷ []) i ≡ link s.links i = same i in absurd (omega arith) in
    record {
      pool = record {
        block = block';
        all = omega arith;
        free = subst (λ (l : List ℕ). IsWhole (link (s.links ++ none ∷ [])) (length (s.links ++ none ∷ [])) s.free l) (sym free_is) free';
      };
      one = record {
        few = omega arith;
        slots = length s.links ∷ [];
        whole = record { chain = (refl, omega arith, same (length s.links) ∙ pool.block.outside (length s.links) (omega arith)); top = λ _ i. new_top i };
        ends = λ _. refl;
        kept = λ e. elim (is_same s.free none) [ inl z ↦ e ∙ z | inr z ↦ let low : s.free < length s.links = some_low (link s.links) (length s.links) s.free (slots_of s s.free) z pool.free.chain in absurd (omega arith) ];
        shows = refl;
      };
      others = record {
        few = λ _. omega arith;
        stays = λ k k_last xs other some_k out. record {
          few = omega arith;
          slots = other.slots;
          whole = whole_wider (link s.links) (link (s.links ++ none ∷ [])) (length s.links) (length (s.links ++ none ∷ [])) k other.slots same wider other.whole;
          ends = other.ends;
          kept = other.kept;
          shows = widened s (blank ∷ []) k other.slots pool other.whole.chain ∙ other.shows;
        };
        fresh = λ k k_last xs other some_k out is_new. elim is_new [
          | inl e ↦ let low : k < length s.links = some_low (link s.links) (length s.links) k other.slots some_k other.whole.chain in absurd (omega arith)
          | inr none_of ↦ none_of
        ];
      };
      free = ap (λ (l : List ℕ). length l) free_is;
    }

-- the numbers that were read at a slot are those of its candidate
pub read : (s : Block) (i : ℕ) (r : Numbers) → IsPool s → i < length s.links → r ≡ get_or s.candidates i r → seen r ≡ candidate s i
read s i r pool low e =
    let all : length s.links ≤ length s.candidates = pool.all in
    ap seen (e ∙ get_or_default s.candidates i r blank (omega arith))

-- what was written is there
pub written : (s : Block) (first last : ℕ) (x : Candidate) (y : Numbers) → IsPool s → IsHeld s first last (x ∷ []) → candidate (rewritten s (set s.candidates first y)) first ≡ seen y
written s first last x y pool h =
    let low : first < length s.links = (one_slot s first last x h).low in
    let all : length s.links ≤ length s.candidates = pool.all in
    ap seen (get_or-set_same s.candidates first y blank (omega arith))

-- one candidate more behind the others
pub padded : (s : Block) → IsPool s → KeepsOthers s [] (rewritten s (s.candidates ++ blank ∷ [])) []
padded s pool = record {
  few = λ few. few;
  stays = λ k k_last xs other some out. record {
    few = other.few;
    slots = other.slots;
    whole = other.whole;
    ends = other.ends;
    kept = other.kept;
    shows = widened s (blank ∷ []) k other.slots pool other.whole.chain ∙ other.shows;
  };
  fresh = λ k k_last xs other some out is_new. is_new;
}

-- a block that grew by a slot, which is then free
pub grown_freed : (s t u : Block) (n : ℕ) → IsGrown s t → n ≡ length s.links → IsFreed t n u → KeepsOthers s [] u []
grown_freed s t u n grown e freed = record {
  few = λ few. freed.others.few (grown.others.few few);
  stays = λ k kl xs h some out. freed.others.stays k kl xs (grown.others.stays k kl xs h some out) some (λ m. grown.others.fresh k kl xs h some out (elim m [ inl f ↦ inl (f ∙ e) | inr o ↦ inr o ]));
  fresh = λ k kl xs h some out is_new. is_new;
}
