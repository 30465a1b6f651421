-- What a user knows of slacks, of frontiers and of undominated lists.
use Rattle.std.specs.Prelude.{◌≡◌, ℕ, ◌<◌, Bool, List, [], ◌∷◌, ◌++◌, ℤ, ◌<ℤ◌, Option, None}
use Rattle.std.specs.List.{Contains, All, AllPairs}
use Rattle.elmore.specs.Placements.{IsSlack}
use Rattle.elmore.specs.Best.{IsBest}
use Rattle.elmore.specs.Pairs.{Dominates, IsPairAt, IsUndominated}
use Rattle.elmore.specs.Frontier.{Point, IsAttained, IsOnFrontier, IsFrontier}
use Rattle.elmore.specs.declared.pair.Pair.{Pair}
use Rattle.elmore.specs.declared.problem.Problem.{Problem}

-- a placement has at most one slack
abbrev pub OneSlack : Type 0
OneSlack = (p : Problem) (cells : List (Option ℕ)) (x y : ℤ) → IsSlack p cells x → IsSlack p cells y → x ≡ y

-- b costs more than a and has more slack
pub record Exceeds (a b : Point) : Type 0 where
  pub costs : a.cost < b.cost
  pub slacks : a.slack <ℤ b.slack

-- along a frontier both cost and slack rise strictly
abbrev pub FrontierRises : Type 0
FrontierRises = (p : Problem) (cap : Option ℕ) (points : List Point) → IsFrontier (IsAttained p cap) points
    → AllPairs Exceeds points

-- an attained point that no other attained point outdoes stands in the frontier
abbrev pub FrontierIsWhole : Type 0
FrontierIsWhole =
    (p : Problem) (cap : Option ℕ) (points : List Point) (point : Point) → IsFrontier (IsAttained p cap) points
    → IsOnFrontier (IsAttained p cap) point → Contains points point

-- a frontier without a cap ends at the best slack
abbrev pub BestIsLast : Type 0
BestIsLast = (p : Problem) (cells : List (Option ℕ)) (x : ℤ) (points : List Point) → IsBest p cells x
    → IsFrontier (IsAttained p None) points
    → (front : List Point) × (last : Point) × (points ≡ front ++ last ∷ []) × (last.slack ≡ x)

-- a problem has at most one frontier under a cap
abbrev pub OneFrontier : Type 0
OneFrontier = (p : Problem) (cap : Option ℕ) (points others : List Point) → IsFrontier (IsAttained p cap) points
    → IsFrontier (IsAttained p cap) others → points ≡ others

-- no other pair at the node dominates it
abbrev pub IsAlone : Problem → ℕ → Bool → Pair → Type 0
IsAlone p v odd x = (y : Pair) → IsPairAt p v odd y → Dominates y x → y ≡ x

-- an undominated list of the pairs at a node holds those that no other pair dominates, and no others
abbrev pub UndominatedIsExact : Type 0
UndominatedIsExact = (p : Problem) (v : ℕ) (odd : Bool) (xs : List Pair) → IsUndominated (IsPairAt p v odd) xs
    → ((x : Pair) → IsPairAt p v odd x → IsAlone p v odd x → Contains xs x) × All (IsAlone p v odd) xs
