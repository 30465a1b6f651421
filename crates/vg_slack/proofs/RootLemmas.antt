-- A walk over the candidates of the root, and the one that was chosen of those that are past.
use Rattle.std.proofs.Common.{◌≡◌, ◌⊎◌, ℕ, zero, suc, ◌+◌, ◌*◌, ◌<◌, List, [], ◌∷◌, ◌++◌, length, refl, sym, ap, ◌∙◌, subst, arith}
use Rattle.std.proofs.Common.{inl, inr, Option, Some, None, ℤ, pos, ◌+ℤ◌, ◌-ℤ◌, ◌≤ℤ◌}
use Rattle.std.specs.Prelude.{MatchOption}
use Rattle.std.specs.List.{Contains}
use Rattle.std.proofs.lemmas.Int.{ints}
use Rattle.std.proofs.lemmas.List.{map-append, append_assoc, append-nil, length_push}
use Rattle.std.proofs.lemmas.List.Elements.{Contains-append_left, Contains-append_right, Contains-append_cases}
use Rattle.elmore.specs.declared.pair.Pair.{Pair}
use Rattle.elmore.specs.declared.problem.Problem.{Problem}
use Rattle.cand_pairs.specs.Candidates.{Drives, IsBoundedBy, root_value}
use Rattle.cand_pool.specs.Candidates.{Candidate, Candidates, IsModest, AreModest}
use Rattle.cand_pool.specs.Pools.{Block, IsPlace}
use Rattle.cand_pool.specs.declared.ends.Cand.{Cand}
use Rattle.cand_uses.specs.Pairs.{pair_of, pairs_of}
use Rattle.vg_convex.proofs.Walks.{left_from, fewer_left, IsAfter}
use Rattle.vg_slack.specs.declared.root.Choice.{Choice}
use Rattle.vg_slack.specs.Roots.{IsChosen, IsChoice}

one_alone : (a y : Pair) → Contains (a ∷ []) y → y ≡ a
one_alone a y (zero, k_n, e) = sym e
one_alone a y (suc k, k_n, e) = absurd (omega (arith, k_n))

-- the pairs with one candidate more
one_more : (xs : Candidates) (x : Candidate) (y : Pair) → Contains (pairs_of (xs ++ x ∷ [])) y → Contains (pairs_of xs) y ⊎ (y ≡ pair_of x)
one_more xs x y found =
    let split : Contains (pairs_of xs ++ pair_of x ∷ []) y = subst (λ (ys : List Pair). Contains ys y) (map-append pair_of xs (x ∷ [])) found in
    elim (Contains-append_cases (pairs_of xs) (pair_of x ∷ []) y split) [
      | inl old ↦ inl old
      | inr new ↦ inr (one_alone (pair_of x) y new)
    ]

bound_more : (p : Problem) (xs : Candidates) (x : Candidate) (slack : ℤ) → IsBoundedBy p (Contains (pairs_of xs)) slack
    → (Drives p (pair_of x) → root_value p (pair_of x) ≤ℤ slack) → IsBoundedBy p (Contains (pairs_of (xs ++ x ∷ []))) slack
bound_more p xs x slack most less = λ y found drives. elim (one_more xs x y found) [
  | inl old ↦ most y old drives
  | inr e ↦ subst (λ (z : Pair). root_value p z ≤ℤ slack) (sym e) (less (subst (Drives p) e drives))
]

-- one more that leaves no more slack, if the driver may charge it
pub kept : (p : Problem) (xs : Candidates) (x : Candidate) (slack : ℤ) (sol : ℕ) → IsChosen p xs slack sol
    → (Drives p (pair_of x) → root_value p (pair_of x) ≤ℤ slack) → IsChosen p (xs ++ x ∷ []) slack sol
kept p xs x slack sol is less = record {
  candidate = is.candidate;
  among = Contains-append_left xs (x ∷ []) is.candidate is.among;
  drives = is.drives;
  worth = is.worth;
  solution = is.solution;
  most = bound_more p xs x slack is.most less;
}

pub passed : (p : Problem) (xs : Candidates) (x : Candidate) (best : Option Choice) → (Drives p (pair_of x) → ⊥)
    → IsChoice p xs best → IsChoice p (xs ++ x ∷ []) best
passed p xs x None never none = λ y found drives. elim (one_more xs x y found) [
  | inl old ↦ none y old drives
  | inr e ↦ never (subst (Drives p) e drives)
]
passed p xs x (Some best) never is = kept p xs x best.slack best.sol.0 is (λ drives. absurd (never drives))

-- one more that leaves more
pub taken : (p : Problem) (xs : Candidates) (x : Candidate) (slack : ℤ) (sol : ℕ) → Drives p (pair_of x) → slack ≡ root_value p (pair_of x)
    → sol ≡ x.tag → IsBoundedBy p (Contains (pairs_of xs)) slack → IsChosen p (xs ++ x ∷ []) slack sol
taken p xs x slack sol drives worth sol_is most = record {
  candidate = x;
  among = Contains-append_right xs (x ∷ []) x (0, omega arith, refl);
  drives = drives;
  worth = worth;
  solution = sol_is;
  most = bound_more p xs x slack most (λ _. omega (arith, ints, worth));
}

-- what the pool told is worth this
pub worth_told : (p : Problem) (x : Candidate) (q : ℤ) (c : ℕ) (slack : ℤ)
    → slack ≡ q -ℤ (p.driver.arrival +ℤ p.driver.k +ℤ pos (p.driver.r * c)) → q ≡ x.q → c ≡ x.c → slack ≡ root_value p (pair_of x)
worth_told p x q c slack slack_is q_is c_is = omega (arith, ints, slack_is, q_is, ap (λ (l : ℕ). p.driver.r * l) c_is)

-- the walk has passed the first of the candidates; `before` is what the steps were
pub record IsWalk (p : Problem) (s : Block) (xs : Candidates) (next : Option Cand) (best : Option Choice) (before steps : ℕ) : Type 0 where
  pub seen : Candidates
  pub rest : Candidates
  pub all : seen ++ rest ≡ xs
  pub more : MatchOption next (rest ≡ []) (λ (place : Cand). IsPlace s place rest)
  pub chosen : IsChoice p seen best
  pub cost : steps ≡ before + length seen

pub walk_begins : (p : Problem) (s : Block) (xs : Candidates) (next : Option Cand) (steps : ℕ)
    → MatchOption next (xs ≡ []) (λ (place : Cand). IsPlace s place xs) → IsWalk p s xs next None steps steps
walk_begins p s xs next steps first = record {
  seen = [];
  rest = xs;
  all = refl;
  more = first;
  chosen = λ y (k, k_n, e) drives. absurd (omega (arith, k_n));
  cost = omega arith;
}

pub walk_ends : (p : Problem) (s : Block) (xs : Candidates) (next : Option Cand) (best : Option Choice) (before steps : ℕ) → next ≡ None
    → IsWalk p s xs next best before steps → IsChoice p xs best × (steps ≡ before + length xs)
walk_ends p s xs next best before steps e w =
    let none : w.rest ≡ [] = subst (λ (o : Option Cand). MatchOption o (w.rest ≡ []) (λ (place : Cand). IsPlace s place w.rest)) e w.more in
    let all : w.seen ≡ xs = sym (append-nil w.seen) ∙ ap (λ (ys : Candidates). w.seen ++ ys) (sym none) ∙ w.all in
    (subst (λ (ys : Candidates). IsChoice p ys best) all w.chosen, omega (arith, w.cost, ap (λ (ys : Candidates). length ys) all))

-- a place where the walk stands: a candidate, and those after it
pub record IsAtPlace (p : Problem) (s : Block) (xs : Candidates) (place : Cand) (best : Option Choice) (before steps : ℕ) : Type 0 where
  pub seen : Candidates
  pub here : Candidate
  pub after : Candidates
  pub all : seen ++ here ∷ after ≡ xs
  pub at : IsPlace s place (here ∷ after)
  pub chosen : IsChoice p seen best
  pub cost : steps ≡ before + length seen

pub at_place : (p : Problem) (s : Block) (xs : Candidates) (next : Option Cand) (place : Cand) (best : Option Choice) (before steps : ℕ)
    → next ≡ Some place → IsWalk p s xs next best before steps → IsAtPlace p s xs place best before steps
at_place p s xs next place best before steps e w =
    go w.rest w.all (subst (λ (o : Option Cand). MatchOption o (w.rest ≡ []) (λ (q : Cand). IsPlace s q w.rest)) e w.more)
  where
    go : (rest : Candidates) → w.seen ++ rest ≡ xs → IsPlace s place rest → IsAtPlace p s xs place best before steps
    go [] all at = absurd (at.some refl)
    go (x ∷ ys) all at = record { seen = w.seen; here = x; after = ys; all = all; at = at; chosen = w.chosen; cost = w.cost }

-- it goes on
pub walk_on : (p : Problem) (s : Block) (xs : Candidates) (place : Cand) (best better : Option Choice) (next : Option Cand) (before steps steps' : ℕ)
    → (a : IsAtPlace p s xs place best before steps) → IsAfter s place next → IsChoice p (a.seen ++ a.here ∷ []) better → steps' ≡ suc steps
    → IsWalk p s xs next better before steps'
walk_on p s xs place best better next before steps steps' a after chosen step = record {
  seen = a.seen ++ a.here ∷ [];
  rest = a.after;
  all = append_assoc a.seen (a.here ∷ []) a.after ∙ a.all;
  more = after a.here a.after a.at;
  chosen = chosen;
  cost = omega (arith, step, a.cost, length_push a.seen a.here);
}

pub walk_falls : (p : Problem) (s : Block) (xs : Candidates) (place : Cand) (best : Option Choice) (next : Option Cand) (before steps : ℕ)
    → (a : IsAtPlace p s xs place best before steps) → IsAfter s place next → left_from s next < left_from s (Some place)
walk_falls p s xs place best next before steps a after = fewer_left s (a.here ∷ a.after) 0 place next a.at after

modest_in : (seen : Candidates) (x : Candidate) (after : Candidates) → AreModest (seen ++ x ∷ after) → IsModest x
modest_in [] x after modest = modest.0
modest_in (y ∷ seen) x after modest = modest_in seen x after modest.1

pub modest_here : (p : Problem) (s : Block) (xs : Candidates) (place : Cand) (best : Option Choice) (before steps : ℕ) → AreModest xs
    → (a : IsAtPlace p s xs place best before steps) → IsModest a.here
modest_here p s xs place best before steps modest a = modest_in a.seen a.here a.after (subst AreModest (sym a.all) modest)
