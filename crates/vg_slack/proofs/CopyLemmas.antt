-- A walk over the candidates of a list, whose pairs are put at the end of others.
use Rattle.std.proofs.Common.{◌≡◌, ℕ, suc, ◌+◌, ◌<◌, ◌≤◌, List, [], ◌∷◌, ◌++◌, length, refl, sym, ap, ◌∙◌, subst, arith}
use Rattle.std.proofs.Common.{Option, Some, None, ℤ}
use Rattle.std.specs.Prelude.{MatchOption}
use Rattle.std.proofs.lemmas.List.{map-append, append_assoc, append-nil}
use Rattle.elmore.specs.declared.pair.Pair.{Pair}
use Rattle.cand_pool.specs.Candidates.{Candidate, Candidates}
use Rattle.cand_pool.specs.Pools.{Block, IsPlace}
use Rattle.cand_pool.specs.declared.ends.Cand.{Cand}
use Rattle.cand_uses.specs.Pairs.{pair_of, pairs_of}
use Rattle.vg_convex.proofs.Walks.{left_from, fewer_left, IsAfter}

-- the pairs of the first of the candidates were put after those that were there before; a step for each of the others
-- makes no more than `most`
pub record IsCopy (s : Block) (xs : Candidates) (before : List Pair) (next : Option Cand) (items : List Pair) (steps most : ℕ) : Type 0 where
  pub seen : Candidates
  pub rest : Candidates
  pub all : seen ++ rest ≡ xs
  pub more : MatchOption next (rest ≡ []) (λ (place : Cand). IsPlace s place rest)
  pub copied : items ≡ before ++ pairs_of seen
  pub cost : steps + length rest ≤ most

pub copy_begins : (s : Block) (xs : Candidates) (before : List Pair) (next : Option Cand) (items : List Pair) (steps : ℕ) → items ≡ before
    → MatchOption next (xs ≡ []) (λ (place : Cand). IsPlace s place xs) → IsCopy s xs before next items steps (steps + length xs)
copy_begins s xs before next items steps same first = record {
  seen = [];
  rest = xs;
  all = refl;
  more = first;
  copied = same ∙ sym (append-nil before);
  cost = omega arith;
}

pub copy_ends : (s : Block) (xs : Candidates) (before : List Pair) (next : Option Cand) (items : List Pair) (steps most : ℕ) → next ≡ None
    → IsCopy s xs before next items steps most → items ≡ before ++ pairs_of xs
copy_ends s xs before next items steps most e w =
    let none : w.rest ≡ [] = subst (λ (o : Option Cand). MatchOption o (w.rest ≡ []) (λ (place : Cand). IsPlace s place w.rest)) e w.more in
    let all : w.seen ≡ xs = sym (append-nil w.seen) ∙ ap (λ (ys : Candidates). w.seen ++ ys) (sym none) ∙ w.all in
    w.copied ∙ ap (λ (ys : Candidates). before ++ pairs_of ys) all

-- a place where the walk stands: a candidate, and those after it
pub record IsCopyAt (s : Block) (xs : Candidates) (before : List Pair) (place : Cand) (items : List Pair) (steps most : ℕ) : Type 0 where
  pub seen : Candidates
  pub here : Candidate
  pub after : Candidates
  pub all : seen ++ here ∷ after ≡ xs
  pub at : IsPlace s place (here ∷ after)
  pub copied : items ≡ before ++ pairs_of seen
  pub cost : steps + length after < most

pub copy_at : (s : Block) (xs : Candidates) (before : List Pair) (next : Option Cand) (place : Cand) (items : List Pair) (steps most : ℕ)
    → next ≡ Some place → IsCopy s xs before next items steps most → IsCopyAt s xs before place items steps most
copy_at s xs before next place items steps most e w =
    go w.rest w.all w.cost (subst (λ (o : Option Cand). MatchOption o (w.rest ≡ []) (λ (q : Cand). IsPlace s q w.rest)) e w.more)
  where
    go : (rest : Candidates) → w.seen ++ rest ≡ xs → steps + length rest ≤ most → IsPlace s place rest → IsCopyAt s xs before place items steps most
    go [] all cost at = absurd (at.some refl)
    go (x ∷ ys) all cost at = record { seen = w.seen; here = x; after = ys; all = all; at = at; copied = w.copied; cost = omega (arith, cost) }

-- the pair of the candidate was put at the end
pub copy_more : (s : Block) (xs : Candidates) (before : List Pair) (place : Cand) (next : Option Cand) (items items' : List Pair) (pair : Pair)
    (steps steps' most : ℕ) → (a : IsCopyAt s xs before place items steps most) → IsAfter s place next → pair ≡ pair_of a.here
    → items' ≡ items ++ pair ∷ [] → steps' ≡ suc steps → IsCopy s xs before next items' steps' most
copy_more s xs before place next items items' pair steps steps' most a after same pushed step = record {
  seen = a.seen ++ a.here ∷ [];
  rest = a.after;
  all = append_assoc a.seen (a.here ∷ []) a.after ∙ a.all;
  more = after a.here a.after a.at;
  copied = pushed ∙ ap (λ (ys : List Pair). ys ++ pair ∷ []) a.copied ∙ append_assoc before (pairs_of a.seen) (pair ∷ [])
      ∙ ap (λ (x : Pair). before ++ (pairs_of a.seen ++ x ∷ [])) same
      ∙ ap (λ (ys : List Pair). before ++ ys) (sym (map-append pair_of a.seen (a.here ∷ [])));
  cost = omega (arith, step, a.cost);
}

pub copy_falls : (s : Block) (xs : Candidates) (before : List Pair) (place : Cand) (next : Option Cand) (items : List Pair) (steps most : ℕ)
    → IsCopyAt s xs before place items steps most → IsAfter s place next → left_from s next < left_from s (Some place)
copy_falls s xs before place next items steps most a after = fewer_left s (a.here ∷ a.after) 0 place next a.at after

pub pair_told : (x : Candidate) (q : ℤ) (c : ℕ) → q ≡ x.q → c ≡ x.c → record { q = q; c = c } ≡ pair_of x
pair_told x q c q_is c_is = λ i. record { q = q_is i; c = c_is i }
