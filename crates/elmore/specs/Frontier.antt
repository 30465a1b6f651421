-- The frontier of cost and slack (Lillis, Cheng and Lin 1996).
use Rattle.std.specs.Prelude.{◌≡◌, ℕ, ◌<◌, ◌≤◌, List, ℤ, ◌≤ℤ◌, Option}
use Rattle.std.specs.List.{Contains, All, AllPairs}
use Rattle.elmore.specs.Placements.{IsSlack, cost_of}
use Rattle.elmore.specs.Legal.{IsWithin}
use Rattle.elmore.specs.Best.{IsGood}
use Rattle.elmore.specs.declared.problem.Problem.{Problem}

-- a cost and a slack
pub record Point : Type 0 where
  pub cost : ℕ
  pub slack : ℤ

-- a good placement within the cap has this cost and this slack
pub record IsPointOf (p : Problem) (cap : Option ℕ) (cells : List (Option ℕ)) (point : Point) : Type 0 where
  pub good : IsGood p cells
  pub within : IsWithin cap (cost_of p cells)
  pub costs : point.cost ≡ cost_of p cells
  pub slacks : IsSlack p cells point.slack

abbrev pub IsAttained : Problem → Option ℕ → Point → Type 0
IsAttained p cap point = (cells : List (Option ℕ)) × IsPointOf p cap cells point

-- a costs no more than b and has no less slack
pub record Outdoes (a b : Point) : Type 0 where
  pub costs : a.cost ≤ b.cost
  pub slacks : b.slack ≤ℤ a.slack

-- a point of a set that no other point of it outdoes
pub record IsOnFrontier (In : Point → Type 0) (point : Point) : Type 0 where
  pub attained : In point
  pub alone : (other : Point) → In other → Outdoes other point → other ≡ point

-- the points of a set that no other point of it outdoes, by rising cost
pub record IsFrontier (In : Point → Type 0) (points : List Point) : Type 0 where
  pub rising : AllPairs (λ a b. a.cost < b.cost) points
  pub taken : All (IsOnFrontier In) points
  pub covers : (point : Point) → In point → (other : Point) × Contains points other × Outdoes other point
