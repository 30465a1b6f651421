-- The sweep over several frontiers: all begin at their cheapest points, and those of least slack move on together.
use Rattle.std.specs.Prelude.{◌≡◌, ◌⊎◌, ℕ, ◌+◌, ◌<◌, ◌≤◌, List, length, ℤ, ◌≤ℤ◌, ◌<ℤ◌, Option}
use Rattle.std.specs.List.{Contains, All, AllPairs}
use Rattle.elmore.specs.Frontier.{Point, Outdoes}
use Rattle.elmore.specs.FrontierLaws.{Exceeds}
use Rattle.vg_total.specs.Totals.{IsTotalOf, IsTotalBy, IsTotal, IsListed, picked}

-- along each of n lists cost and slack rise strictly
abbrev pub AreRising : ℕ → (ℕ → List Point) → Type 0
AreRising n fronts = (k : ℕ) → k < n → AllPairs Exceeds (fronts k)

-- one of these outdoes it
abbrev pub IsOutdone : List Point → Point → Type 0
IsOutdone points y = (x : Point) × Contains points x × Outdoes x y

-- no point of this choice stands before these
abbrev pub AreReached : ℕ → (ℕ → Point) → (ℕ → Point) → Type 0
AreReached n from choice =
    (k : ℕ) → k < n → ((from k).cost ≤ (choice k).cost) × ((from k).slack ≤ℤ (choice k).slack)

-- what holds when the picks stand at `at` and these points are found
pub record IsSwept (n : ℕ) (fronts : ℕ → List Point) (cap : Option ℕ) (at : ℕ → ℕ) (points : List Point) : Type 0 where
  pub inside : (k : ℕ) → k < n → at k < length (fronts k)
  pub rising : AllPairs Exceeds points
  pub taken : All (IsTotal n (IsListed fronts) cap) points
  pub above : (x : Point) → IsTotalOf n (picked fronts at) x → All (λ y. Exceeds y x) points
  pub covers : (choice : ℕ → Point) (y : Point) → IsTotalBy n (IsListed fronts) cap choice y
      → IsOutdone points y ⊎ AreReached n (picked fronts at) choice

-- one pick after the move of those of at most this slack
pub record IsMovedAt (fronts : ℕ → List Point) (x : ℤ) (at : ℕ → ℕ) (k after : ℕ) : Type 0 where
  pub inside : after < length (fronts k)
  pub moves : (picked fronts at k).slack ≤ℤ x → after ≡ at k + 1
  pub stays : x <ℤ (picked fronts at k).slack → after ≡ at k

-- n picks after that move
abbrev pub AreMoved : ℕ → (ℕ → List Point) → ℤ → (ℕ → ℕ) → (ℕ → ℕ) → Type 0
AreMoved n fronts x at after = (k : ℕ) → k < n → IsMovedAt fronts x at k (after k)

-- a pick of at most this slack is the last of its list
pub record IsLastAt (fronts : ℕ → List Point) (x : ℤ) (at : ℕ → ℕ) (k : ℕ) : Type 0 where
  pub low : (picked fronts at k).slack ≤ℤ x
  pub end : length (fronts k) ≤ at k + 1

-- one of n picks is such a one
abbrev pub IsAtEnd : ℕ → (ℕ → List Point) → ℤ → (ℕ → ℕ) → Type 0
IsAtEnd n fronts x at = (k : ℕ) × (k < n) × IsLastAt fronts x at k
