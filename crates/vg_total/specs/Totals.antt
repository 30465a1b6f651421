-- The trade-off of cost and slack over several nets: a choice takes one point of each net, costs their sum, and has the
-- least of their slacks.
use Rattle.std.specs.Prelude.{◌≡◌, ℕ, ◌<◌, List, slice_index_or, ℤ, pos, ◌≤ℤ◌, Option, None}
use Rattle.std.specs.List.{Contains, sum_by}
use Rattle.elmore.specs.Path.{nodes as numbers}
use Rattle.elmore.specs.Frontier.{Point, IsAttained, IsFrontier}
use Rattle.elmore.specs.Legal.{IsWithin}
use Rattle.elmore.specs.declared.problem.Problem.{Problem}

-- x is the least slack of n points
pub record IsLeastOf (n : ℕ) (choice : ℕ → Point) (x : ℤ) : Type 0 where
  pub below : (k : ℕ) → k < n → x ≤ℤ (choice k).slack
  pub met : (k : ℕ) × (k < n) × (x ≡ (choice k).slack)

-- x costs what n points cost together, and has the least of their slacks
pub record IsTotalOf (n : ℕ) (choice : ℕ → Point) (x : Point) : Type 0 where
  pub cost : x.cost ≡ sum_by (λ k. (choice k).cost) (numbers n)
  pub least : IsLeastOf n choice x.slack

-- x is the total, within the cap, of this choice of one point of each of n sets
pub record IsTotalBy (n : ℕ) (In : ℕ → Point → Type 0) (cap : Option ℕ) (choice : ℕ → Point) (x : Point) : Type 0 where
  pub chosen : (k : ℕ) → k < n → In k (choice k)
  pub total : IsTotalOf n choice x
  pub within : IsWithin cap x.cost

-- x is the total of some choice within the cap
abbrev pub IsTotal : ℕ → (ℕ → Point → Type 0) → Option ℕ → Point → Type 0
IsTotal n In cap x = (choice : ℕ → Point) × IsTotalBy n In cap choice x

-- x is a point of net k's list
abbrev pub IsListed : (ℕ → List Point) → ℕ → Point → Type 0
IsListed fronts k x = Contains (fronts k) x

-- the point of each list that stands where a pick says
abbrev pub picked : (ℕ → List Point) → (ℕ → ℕ) → ℕ → Point
picked fronts at k = slice_index_or (fronts k) (at k) (record { cost = 0; slack = pos 0 })

-- a good placement of net k attains x
abbrev pub IsAttainedAt : (ℕ → Problem) → ℕ → Point → Type 0
IsAttainedAt problems k x = IsAttained (problems k) None x

-- the frontier of n nets: over all choices of a good placement of each, within the cap
abbrev pub IsTotalFrontier : ℕ → (ℕ → Problem) → Option ℕ → List Point → Type 0
IsTotalFrontier n problems cap points = IsFrontier (IsTotal n (IsAttainedAt problems) cap) points
