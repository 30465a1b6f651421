-- How lists of pairs are worked upward: the wire, branches that meet, and cells.
use Rattle.std.specs.Prelude.{◌≡◌, ◌⊎◌, ℕ, ◌+◌, ◌-◌, Bool, not, false, List, length, slice_index_or, Option, MatchOption, ◌<◌, ◌≤ℤ◌, ◌≤◌, pos, ◌-ℤ◌, ◌^◌, ◌*◌, true, Some}
use Rattle.std.specs.Int.{int_min}
use Rattle.std.specs.List.{Contains, filter, sum_by, range_with_len}
use Rattle.elmore.specs.Allowances.{allowed_at, Allows}
use Rattle.elmore.specs.Cells.{rep_of, rep_at}
use Rattle.elmore.specs.Legal.{IsWithin, MayHave}
use Rattle.elmore.specs.Path.{is_child}
use Rattle.elmore.specs.Placements.{IsSinkAt}
use Rattle.elmore.specs.Problems.{is_live}
use Rattle.elmore.specs.Trees.{parent_of, resistance, capacitance}
use Rattle.elmore.specs.Wire.{downstream_in}
use Rattle.cand_pairs.specs.Candidates.{wired, with_cell, past_cell, fork_of, Fork, IsCoveredBy}
use Rattle.elmore.specs.declared.rep.Rep.{Rep}
use Rattle.elmore.specs.declared.parts.Sink.{Sink}
use Rattle.elmore.specs.declared.pair.Pair.{Pair}
use Rattle.elmore.specs.declared.problem.Problem.{Problem}

-- at most 10^11 of load, and of time between -10^25, with room for one more wire, and 10^23
pub record IsSmallPair (x : Pair) : Type 0 where
  pub low : (pos 0 -ℤ pos (92 * 10 ^ 23)) ≤ℤ x.q
  pub high : x.q ≤ℤ pos (10 ^ 23)
  pub load : x.c ≤ 10 ^ 11

-- small enough for one more step of any lists, those of a certificate too
pub record IsModest (x : Pair) : Type 0 where
  pub low : (pos 0 -ℤ pos (10 ^ 30)) ≤ℤ x.q
  pub high : x.q ≤ℤ pos (10 ^ 30)
  pub load : x.c ≤ 10 ^ 18

-- x has less load than y, or as much and no less time
abbrev pub Precedes : Pair → Pair → Type 0
Precedes x y = (x.c < y.c) ⊎ ((x.c ≡ y.c) × (y.q ≤ℤ x.q))

-- a pair of each of two branches, together
abbrev pub meet : Pair → Pair → Pair
meet x y = record { q = int_min x.q y.q; c = x.c + y.c }

abbrev pub Meets : List Pair → List Pair → Pair → Type 0
Meets xs ys z = (x : Pair) × (y : Pair) × Contains xs x × Contains ys y × (z ≡ meet x y)

-- the pairs of a list seen through a wire, and through that of u
abbrev pub Wires : ℕ → List Pair → Pair → Type 0
Wires r ys z = (y : Pair) × Contains ys y × (z ≡ wired r y)

abbrev pub Carries : Problem → ℕ → List Pair → Pair → Type 0
Carries p u = Wires (resistance p.tree.nodes u)

-- a pair with more load
abbrev pub raised : ℕ → Pair → Pair
raised c x = record { q = x.q; c = x.c + c }

abbrev pub Raises : ℕ → List Pair → Pair → Type 0
Raises c xs z = (x : Pair) × Contains xs x × (z ≡ raised c x)

-- the pairs of a list for each class, with and without a cell at v
abbrev pub Owns : Problem → ℕ → Bool → (Bool → List Pair) → Pair → Type 0
Owns p v odd lists z =
    (own : Option ℕ) × (y : Pair) × MayHave p v own y.c × Contains (lists (past_cell (rep_of p.reps own) odd)) y
    × (z ≡ with_cell (rep_of p.reps own) y)

-- the cell makes z of a pair of the list within its limit, and of no such pair of it one with more time
pub record IsGreatestBy (rep : Rep) (xs : List Pair) (z : Pair) : Type 0 where
  pub made : (y : Pair) × Contains xs y × IsWithin rep.limit y.c × (z ≡ with_cell (Some rep) y)
  pub most : (y : Pair) → Contains xs y → IsWithin rep.limit y.c → (with_cell (Some rep) y).q ≤ℤ z.q

-- no pair of the list is within its limit
abbrev pub NoneFits : Rep → List Pair → Type 0
NoneFits rep xs = (y : Pair) → Contains xs y → IsWithin rep.limit y.c → ⊥

-- the greatest, if there is one
abbrev pub IsGreatestOf : Rep → List Pair → Option Pair → Type 0
IsGreatestOf rep xs found = MatchOption found (NoneFits rep xs) (IsGreatestBy rep xs)

-- the repeater b may stand at v, for small loads
pub record IsChoiceAt (p : Problem) (v b : ℕ) : Type 0 where
  pub at_place : slice_index_or p.places v false ≡ true
  pub named : b < length p.reps
  pub allows : Allows (allowed_at p.allowed v) b

-- the pairs of a list without a cell, and of each repeater that may stand at v its greatest
abbrev pub Greatest : Problem → ℕ → Bool → (Bool → List Pair) → Pair → Type 0
Greatest p v odd lists z =
    Contains (lists odd) z
    ⊎ ((b : ℕ) × IsChoiceAt p v b × IsGreatestBy (rep_at p.reps b) (lists (past_cell (Some (rep_at p.reps b)) odd)) z)

-- each of these is dominated by a pair of the list
abbrev pub AreCoveredBy : (Pair → Type 0) → List Pair → Type 0
AreCoveredBy In ys = (x : Pair) → In x → IsCoveredBy (Contains ys) x

-- a child or a sink is there to bound the time
abbrev pub HasEnd : Problem → ℕ → List ℕ → Type 0
HasEnd p v children = ((u : ℕ) × Contains children u) ⊎ ((sink : Sink) × IsSinkAt p v sink)

-- the children of v from number i on: those that are live, and the capacitance by the others
abbrev pub children_from : Problem → ℕ → ℕ → List ℕ
children_from p v i = filter (is_child (parent_of p.tree.nodes) v) (range_with_len i (length p.tree.nodes - i))

abbrev pub live_from : Problem → ℕ → ℕ → List ℕ
live_from p v i = filter (λ u. is_live p.tree.nodes p.sinks u) (children_from p v i)

abbrev pub own_from : Problem → ℕ → ℕ → ℕ
own_from p v i =
    capacitance p.tree.nodes v
    + sum_by (downstream_in p.tree.nodes) (filter (λ u. not (is_live p.tree.nodes p.sinks u)) (children_from p v i))

abbrev pub fork_from : Problem → ℕ → ℕ → Fork
fork_from p v i = fork_of v (own_from p v i) (live_from p v i)
