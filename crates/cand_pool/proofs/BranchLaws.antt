-- The first candidates of two branches are joined.
use Rattle.std.proofs.Common.{◌≡◌, ◌≢◌, ℕ, suc, ◌+◌, true, false, [], ◌∷◌, ◌++◌, sym, ap, ◌∙◌, subst, arith, inl, inr, ℤ}
use Rattle.std.specs.Prelude.{Option, int_lt}
use Rattle.std.proofs.lemmas.Bool.{cases_Bool}
use Rattle.std.proofs.lemmas.Int.{ints}
use Rattle.cand_pool.specs.Links.{none, IsIn}
use Rattle.cand_pool.specs.Candidates.{Candidate, Candidates, IsModest, AreModest}
use Rattle.cand_pool.specs.Pools.{Block, candidate, items, IsHeld, KeepsOthers, Differ}
use Rattle.cand_pool.specs.Moves.{IsTagTaken}
use Rattle.cand_pool.specs.Sequences.{taken_of}
use Rattle.cand_pool.specs.Sieves.{IsAt, IsSieve, IsSifted}
use Rattle.cand_pool.specs.Branches.{AreBranches, AreJoined, branch_names}
use Rattle.cand_pool.specs.declared.ends.Ends.{Ends}
use Rattle.cand_pool.specs.declared.join_pair.Branches.{Branches}
use Rattle.cand_pool.proofs.PoolMoves.{keeps_then}
use Rattle.cand_pool.proofs.PublicLaws.{first_held, none_holds, held_from, place_is, keeps_with, stays_any}
use Rattle.cand_pool.proofs.SieveLaws.{keeps_like}

-- the first and the third list of a sieve change places
pub pivoted : (s : Block) (rest a b : Ends) (xs ps rs : Candidates) → IsSieve s rest a b xs ps rs → IsSieve s b a rest rs ps xs
pivoted s rest a b xs ps rs sieve = record {
  more = sieve.two;
  one = sieve.one;
  two = sieve.more;
  rest_one = λ z e. sieve.one_two (λ f. z (e ∙ f)) (sym e);
  rest_two = λ z e. sieve.rest_two (λ f. z (e ∙ f)) (sym e);
  one_two = λ z e. sieve.rest_one (λ f. z (e ∙ f)) (sym e);
}

-- the first candidate of a list
pub held_first : (s : Block) (first last : ℕ) (x : Candidate) (xs : Candidates) → IsHeld s first last (x ∷ xs) → candidate s first ≡ x
held_first s first last x xs h = place_is s first x xs (record { from = held_from s first last (x ∷ xs) h; some = λ e. absurd (cc) })

less_once : (x y : ℤ) → int_lt x y ≡ true → int_lt y x ≡ false
less_once x y e = elim (cases_Bool (int_lt y x)) [ inl t ↦ absurd (omega (arith, ints, e, t)) | inr f ↦ f ]

joined_numbers : (x y : Candidate) (q q' : ℤ) (c tag : ℕ) → q ≡ q' → c ≡ x.c + y.c → ◌≡◌ {A = Candidate} (record { q = q; c = c; tag = tag }) (record { q = q'; c = x.c + y.c; tag = tag })
joined_numbers x y q q' c tag e f = λ i. record { q = e i; c = f i; tag = tag }

-- the first of b goes, as the formed one
pub joined_b : (s u : Block) (at : Branches) (list' b' : Ends) (x y : Candidate) (zs xs ys : Candidates) (q : ℤ) (c tag : ℕ) → int_lt y.q x.q ≡ true → q ≡ y.q → c ≡ x.c + y.c
    → IsSifted s u at.b at.list at.a b' list' ys zs (x ∷ xs) (record { q = q; c = c; tag = tag }) → AreJoined s u at (record { list = list'; a = at.a; b = b' }) x y zs xs ys tag
joined_b s u at list' b' x y zs xs ys q c tag less q_is c_is sifted =
    let more : int_lt x.q y.q ≡ false = less_once y.q x.q less in
    let sieve : IsSieve u at.a list' b' (x ∷ xs) (zs ++ (record { q = q; c = c; tag = tag } ∷ [])) ys = pivoted u b' list' at.a ys (zs ++ (record { q = q; c = c; tag = tag } ∷ [])) (x ∷ xs) sifted.sieve in
    let sieve' : IsSieve u at.a list' b' (x ∷ xs) (zs ++ (record { q = y.q; c = x.c + y.c; tag = tag } ∷ [])) ys
    = subst (λ (z : Candidate). IsSieve u at.a list' b' (x ∷ xs) (zs ++ (z ∷ [])) ys) (joined_numbers x y q y.q c tag q_is c_is) sieve in
    record {
      branches = rw (less, more) sieve';
      others = keeps_like s u (at.b.first ∷ at.list.first ∷ at.a.first ∷ []) (b'.first ∷ list'.first ∷ at.a.first ∷ []) (branch_names at) (list'.first ∷ at.a.first ∷ b'.first ∷ []) sifted.others
          (λ k m. elim m [ inl e ↦ inr (inr (inl e)) | inr (inl e) ↦ inl e | inr (inr (inl e)) ↦ inr (inl e) | inr (inr (inr o)) ↦ absurd o ])
          (λ k m. elim m [ inl e ↦ inr (inl e) | inr (inl e) ↦ inr (inr (inl e)) | inr (inr (inl e)) ↦ inl e | inr (inr (inr o)) ↦ absurd o ]);
      free = rw less sifted.free;
    }

-- the first of a was moved to the list
a_others : (s u : Block) (at : Branches) (list' a' : ℕ) → KeepsOthers s (at.a.first ∷ at.list.first ∷ at.b.first ∷ []) u (a' ∷ list' ∷ at.b.first ∷ [])
    → KeepsOthers s (branch_names at) u (list' ∷ a' ∷ at.b.first ∷ [])
a_others s u at list' a' keeps =
    keeps_like s u (at.a.first ∷ at.list.first ∷ at.b.first ∷ []) (a' ∷ list' ∷ at.b.first ∷ []) (branch_names at) (list' ∷ a' ∷ at.b.first ∷ []) keeps
    (λ k m. elim m [ inl e ↦ inr (inl e) | inr (inl e) ↦ inl e | inr (inr more) ↦ inr (inr more) ])
    (λ k m. elim m [ inl e ↦ inr (inl e) | inr (inl e) ↦ inl e | inr (inr more) ↦ inr (inr more) ])

-- the first of a goes, as the formed one
pub joined_a : (s u : Block) (at : Branches) (list' a' : Ends) (x y : Candidate) (zs xs ys : Candidates) (q : ℤ) (c tag : ℕ) → int_lt x.q y.q ≡ true → q ≡ x.q → c ≡ x.c + y.c
    → IsSifted s u at.a at.list at.b a' list' xs zs (y ∷ ys) (record { q = q; c = c; tag = tag }) → AreJoined s u at (record { list = list'; a = a'; b = at.b }) x y zs xs ys tag
joined_a s u at list' a' x y zs xs ys q c tag less q_is c_is sifted =
    let more : int_lt y.q x.q ≡ false = less_once x.q y.q less in
    let sieve' : IsSieve u a' list' at.b xs (zs ++ (record { q = x.q; c = x.c + y.c; tag = tag } ∷ [])) (y ∷ ys)
    = subst (λ (z : Candidate). IsSieve u a' list' at.b xs (zs ++ (z ∷ [])) (y ∷ ys)) (joined_numbers x y q x.q c tag q_is c_is) sifted.sieve in
    record { branches = rw (less, more) sieve'; others = a_others s u at list'.first a'.first sifted.others; free = rw (less, more) sifted.free }

-- the third list of a sieve lost its first, which is spare
third_taken : (u v : Block) (rest a b b' : Ends) (xs ps ys : Candidates) (y : Candidate) → IsSieve u rest a b xs ps (y ∷ ys) → IsTagTaken u b.first b.last y ys v b'.first b'.last → IsSieve v rest a b' xs ps ys
third_taken u v rest a b b' xs ps ys y sieve taken =
    let out_rest : rest.first ≢ none → IsIn rest.first (b.first ∷ []) → ⊥ = λ (z : rest.first ≢ none) (m : IsIn rest.first (b.first ∷ [])). elim m [ inl e ↦ sieve.rest_two z e | inr o ↦ o ] in
    let out_a : a.first ≢ none → IsIn a.first (b.first ∷ []) → ⊥ = λ (z : a.first ≢ none) (m : IsIn a.first (b.first ∷ [])). elim m [ inl e ↦ sieve.one_two z e | inr o ↦ o ] in
    record {
      more = stays_any u v (b.first ∷ []) (b'.first ∷ []) rest.first rest.last xs taken.others taken.bag.few out_rest sieve.more;
      one = stays_any u v (b.first ∷ []) (b'.first ∷ []) a.first a.last ps taken.others taken.bag.few out_a sieve.one;
      two = taken.bag;
      rest_one = sieve.rest_one;
      rest_two = λ z e. taken.others.fresh rest.first rest.last xs sieve.more z (out_rest z) (inl e);
      one_two = λ z e. taken.others.fresh a.first a.last ps sieve.one z (out_a z) (inl e);
    }

-- both go, the first of a as the formed one
pub joined_both : (s u v : Block) (at : Branches) (list' a' b' : Ends) (x y : Candidate) (zs xs ys : Candidates) (q : ℤ) (c tag : ℕ) → int_lt x.q y.q ≡ false → int_lt y.q x.q ≡ false → q ≡ x.q → c ≡ x.c + y.c
    → IsSifted s u at.a at.list at.b a' list' xs zs (y ∷ ys) (record { q = q; c = c; tag = tag }) → IsTagTaken u at.b.first at.b.last y ys v b'.first b'.last
    → AreJoined s v at (record { list = list'; a = a'; b = b' }) x y zs xs ys tag
joined_both s u v at list' a' b' x y zs xs ys q c tag not_less not_more q_is c_is sifted taken =
    let sieve' : IsSieve u a' list' at.b xs (zs ++ (record { q = x.q; c = x.c + y.c; tag = tag } ∷ [])) (y ∷ ys)
    = subst (λ (z : Candidate). IsSieve u a' list' at.b xs (zs ++ (z ∷ [])) (y ∷ ys)) (joined_numbers x y q x.q c tag q_is c_is) sifted.sieve in
    let after : IsSieve v a' list' b' xs (zs ++ (record { q = x.q; c = x.c + y.c; tag = tag } ∷ [])) ys
    = third_taken u v a' list' at.b b' xs (zs ++ (record { q = x.q; c = x.c + y.c; tag = tag } ∷ [])) ys y sieve' taken in
    let freed : KeepsOthers u (list'.first ∷ a'.first ∷ at.b.first ∷ []) v (list'.first ∷ a'.first ∷ b'.first ∷ [])
    = keeps_with u v list'.first (a'.first ∷ at.b.first ∷ []) (a'.first ∷ b'.first ∷ []) (keeps_with u v a'.first (at.b.first ∷ []) (b'.first ∷ []) taken.others) in
    record {
      branches = rw (not_less, not_more) after;
      others = keeps_then s u v (branch_names at) (list'.first ∷ a'.first ∷ at.b.first ∷ []) (list'.first ∷ a'.first ∷ at.b.first ∷ []) (list'.first ∷ a'.first ∷ b'.first ∷ []) (list'.first ∷ a'.first ∷ b'.first ∷ [])
          (a_others s u at list'.first a'.first sifted.others) freed (λ k m. m) (λ k m. inl m);
      free = rw (not_less, not_more) (taken.free ∙ ap (λ (n : ℕ). suc n) sifted.free);
    }

-- three live lists that differ are branches
pub branches_of : (s : Block) (list a b : Ends) (zs xs ys : Candidates) → IsAt s list zs → IsAt s a xs → IsAt s b ys → Differ a.first list.first → Differ a.first b.first → Differ list.first b.first
    → AreBranches s (record { list = list; a = a; b = b }) zs xs ys
branches_of s list a b zs xs ys l h k a_list a_b list_b = record {
  more = h;
  one = l;
  two = k;
  rest_one = λ some e. some (a_list e);
  rest_two = λ some e. some (a_b e);
  one_two = λ some e. some (list_b e);
}

-- the first of modest candidates is modest
pub modest_first : (s : Block) (first last : ℕ) → first ≢ none → IsHeld s first last (items s first) → AreModest (items s first) → IsModest (candidate s first)
modest_first s first last some h modest =
    let (ys, e) = first_held s first last (items s first) some h in
    let m : AreModest (candidate s first ∷ ys) = subst (λ (l : Candidates). AreModest l) e modest in m.0

-- a list that has a candidate is not empty
pub some_held : (s : Block) (first last : ℕ) (x : Candidate) (xs : Candidates) → IsHeld s first last (x ∷ xs) → first ≢ none
some_held s first last x xs h e = let f : x ∷ xs ≡ [] = none_holds s first last (x ∷ xs) e h in absurd (cc)

pub taken_same : (x y x' y' : Candidate) (t : Option ℕ) → x' ≡ x → y' ≡ y → t ≡ taken_of x' y' → t ≡ taken_of x y
taken_same x y x' y' t e f g = g ∙ (λ i. taken_of (e i) (f i))
