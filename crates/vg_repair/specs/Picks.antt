-- What a repair is chosen from: the placement without a cell, and the points of a frontier, or its first ones.
use Rattle.std.specs.Prelude.{◌≡◌, ℕ, ◌+◌, ◌<◌, ◌≤◌, List, length, slice_index_or, ℤ, Option, Some, MatchOption}
use Rattle.std.specs.List.{All}
use Rattle.elmore.specs.Legal.{IsWithin}
use Rattle.elmore.specs.declared.problem.Problem.{Problem}
use Rattle.vg_front.specs.Points.{IsFrontierOf}
use Rattle.vg_front.specs.declared.root.Point.{Point}
use Rattle.vg_slack.specs.Bests.{IsBare, NoneIsBare}
use Rattle.vg_slack.specs.declared.answer.Best.{Best}
use Rattle.vg_repair.specs.Repairs.{IsEnough}

-- the placement without a cell, or it is not good
abbrev pub IsBareOf : Problem → Option Best → Type 0
IsBareOf p bare =
    MatchOption bare ((x : ℤ) → NoneIsBare p x) (λ (best : Best). IsBare p best.slack best.placement.cells)

-- no point has slack enough
abbrev pub NoneEnough : ℤ → List Point → Type 0
NoneEnough target points = All (λ (point : Point). IsEnough target point.slack → ⊥) points

-- the points before number n have not slack enough
abbrev pub NoneEnoughBefore : ℤ → List Point → ℕ → Type 0
NoneEnoughBefore target points n =
    (k : ℕ) (d : Point) → k < n → IsEnough target (slice_index_or points k d).slack → ⊥

-- the number of the first point with slack enough
pub record IsFirstEnough (target : ℤ) (points : List Point) (at : ℕ) : Type 0 where
  pub point : at < length points
  pub enough : (d : Point) → IsEnough target (slice_index_or points at d).slack
  pub before : NoneEnoughBefore target points at

-- the first point with slack enough, or the last where none has
pub record IsPick (target : ℤ) (points : List Point) (point : Point) : Type 0 where
  pub at : ℕ
  pub low : at < length points
  pub is : (d : Point) → slice_index_or points at d ≡ point
  pub before : NoneEnoughBefore target points at
  pub last : (IsEnough target point.slack → ⊥) → at + 1 ≡ length points

-- a point has slack enough
pub record HasEnough (target : ℤ) (points : List Point) : Type 0 where
  pub at : ℕ
  pub low : at < length points
  pub enough : (d : Point) → IsEnough target (slice_index_or points at d).slack

-- the cap, or what a best placement costs where that is within the cap
pub data IsLastCap (cap : Option ℕ) (best last : ℕ) : Type 0 where
  own : IsWithin cap best → last ≡ best → IsLastCap cap best last
  given : cap ≡ Some last → last ≤ best → IsLastCap cap best last

-- the frontier within the cap, or that within a smaller one in which a point has slack enough
pub data IsSearched (p : Problem) (cap : Option ℕ) (target : ℤ) (points : List Point) : Type 0 where
  whole : IsFrontierOf p cap points → IsSearched p cap target points
  first : (few : ℕ) → IsWithin cap few → IsFrontierOf p (Some few) points → HasEnough target points
      → IsSearched p cap target points
