-- A walk over the candidates of a list, of each of which something is put at the end of others.
use Rattle.std.proofs.Common.{◌≡◌, ℕ, ◌<◌, ◌≤◌, ◌+◌, arith, List, [], ◌∷◌, ◌++◌, map, refl, sym, ap, ◌∙◌, subst, ℤ}
use Rattle.std.proofs.Common.{Option, Some, None}
use Rattle.std.specs.Prelude.{MatchOption}
use Rattle.std.specs.List.{All, Contains}
use Rattle.std.proofs.lemmas.List.{map-append, append_assoc, append-nil}
use Rattle.std.proofs.lemmas.List.Elements.{All-contains, Contains-append_right}
use Rattle.cand_pool.specs.Candidates.{Candidate, Candidates}
use Rattle.cand_pool.specs.Pools.{Block, IsPlace}
use Rattle.cand_pool.specs.declared.ends.Cand.{Cand}
use Rattle.cand_turns.specs.Widened.{chosen_for}
use Rattle.vg_convex.specs.declared.work.Made.{Made as Result}
use Rattle.vg_convex.proofs.Walks.{left_from, fewer_left, IsAfter}

-- what is to be chosen for the first of the candidates was read
pub record IsRead (s : Block) (xs : Candidates) (row added : ℕ) (next : Option Cand) (items : List Result) : Type 0 where
  pub seen : Candidates
  pub rest : Candidates
  pub all : seen ++ rest ≡ xs
  pub more : MatchOption next (rest ≡ []) (λ (place : Cand). IsPlace s place rest)
  pub read : items ≡ map (chosen_for row added) seen

pub read_begins : (s : Block) (xs : Candidates) (row added : ℕ) (next : Option Cand) (items : List Result) → items ≡ []
    → MatchOption next (xs ≡ []) (λ (place : Cand). IsPlace s place xs) → IsRead s xs row added next items
read_begins s xs row added next items none first = record { seen = []; rest = xs; all = refl; more = first; read = none }

pub read_ends : (s : Block) (xs : Candidates) (row added : ℕ) (next : Option Cand) (items : List Result) → next ≡ None
    → IsRead s xs row added next items → items ≡ map (chosen_for row added) xs
read_ends s xs row added next items e w =
    let none : w.rest ≡ [] = subst (λ (o : Option Cand). MatchOption o (w.rest ≡ []) (λ (place : Cand). IsPlace s place w.rest)) e w.more in
    let all : w.seen ≡ xs = sym (append-nil w.seen) ∙ ap (λ (ys : Candidates). w.seen ++ ys) (sym none) ∙ w.all in
    w.read ∙ ap (map (chosen_for row added)) all

-- a place where the walk stands: a candidate, and those after it
pub record IsReadAt (s : Block) (xs : Candidates) (row added : ℕ) (place : Cand) (items : List Result) : Type 0 where
  pub seen : Candidates
  pub here : Candidate
  pub after : Candidates
  pub all : seen ++ here ∷ after ≡ xs
  pub at : IsPlace s place (here ∷ after)
  pub read : items ≡ map (chosen_for row added) seen

pub read_at : (s : Block) (xs : Candidates) (row added : ℕ) (next : Option Cand) (place : Cand) (items : List Result) → next ≡ Some place
    → IsRead s xs row added next items → IsReadAt s xs row added place items
read_at s xs row added next place items e w =
    go w.rest w.all (subst (λ (o : Option Cand). MatchOption o (w.rest ≡ []) (λ (q : Cand). IsPlace s q w.rest)) e w.more)
  where
    go : (rest : Candidates) → w.seen ++ rest ≡ xs → IsPlace s place rest → IsReadAt s xs row added place items
    go [] all at = absurd (at.some refl)
    go (x ∷ ys) all at = record { seen = w.seen; here = x; after = ys; all = all; at = at; read = w.read }

-- the candidate is one of the list
pub read_in : (s : Block) (xs : Candidates) (row added : ℕ) (place : Cand) (items : List Result) → (a : IsReadAt s xs row added place items) → Contains xs a.here
read_in s xs row added place items a = subst (λ (ys : Candidates). Contains ys a.here) a.all (Contains-append_right a.seen (a.here ∷ a.after) a.here (0, omega arith, refl))

pub read_more : (s : Block) (xs : Candidates) (row added : ℕ) (place : Cand) (next : Option Cand) (items items' : List Result) (result : Result)
    → (a : IsReadAt s xs row added place items) → IsAfter s place next → result ≡ chosen_for row added a.here → items' ≡ items ++ result ∷ []
    → IsRead s xs row added next items'
read_more s xs row added place next items items' result a after same pushed = record {
  seen = a.seen ++ a.here ∷ [];
  rest = a.after;
  all = append_assoc a.seen (a.here ∷ []) a.after ∙ a.all;
  more = after a.here a.after a.at;
  read = pushed ∙ ap (λ (ys : List Result). ys ++ result ∷ []) a.read ∙ ap (λ (x : Result). map (chosen_for row added) a.seen ++ x ∷ []) same
      ∙ sym (map-append (chosen_for row added) a.seen (a.here ∷ []));
}

pub read_falls : (s : Block) (xs : Candidates) (row added : ℕ) (place : Cand) (next : Option Cand) (items : List Result)
    → IsReadAt s xs row added place items → IsAfter s place next → left_from s next < left_from s (Some place)
read_falls s xs row added place next items a after = fewer_left s (a.here ∷ a.after) 0 place next a.at after

-- what was told of a candidate
pub result_told : (x : Candidate) (q : ℤ) (c tag row added : ℕ) → q ≡ x.q → c ≡ x.c → tag ≡ x.tag
    → record { pair = record { q = q; c = c + added }; rep = row; tag = tag } ≡ chosen_for row added x
result_told x q c tag row added q_is c_is tag_is = λ i. record { pair = record { q = q_is i; c = c_is i + added }; rep = row; tag = tag_is i }

pub load_told : (xs : Candidates) (x : Candidate) (c added most : ℕ) → All (λ (y : Candidate). y.c + added ≤ most) xs → Contains xs x → c ≡ x.c → c + added ≤ most
load_told xs x c added most all found e = omega (arith, e, All-contains (λ (y : Candidate). y.c + added ≤ most) xs x all found)
