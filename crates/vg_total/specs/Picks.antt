-- Picks of points of the nets' frontiers, as numbers, and the frontier that they come to.
use Rattle.std.specs.Prelude.{◌≡◌, ℕ, ◌<◌, ◌^◌, List, [], length, map, slice_index_or, Option}
use Rattle.std.specs.List.{All, AllPairs}
use Rattle.std.specs.declared.vec.Vec.{Vec}
use Rattle.std.specs.declared.alloc.Global.{Global}
use Rattle.elmore.specs.Frontier.{Point, IsFrontier}
use Rattle.elmore.specs.FrontierLaws.{Exceeds}
use Rattle.vg_front.specs.Points.{point_in}
use Rattle.vg_front.specs.declared.root.Point.{Point as Found}
use Rattle.vg_total.specs.Totals.{IsTotalOf, IsTotal, IsListed, picked}
use Rattle.vg_total.specs.declared.pick.TotalPoint.{TotalPoint}

-- the points of a net's frontier
abbrev pub points_in : Vec Found Global → List Point
points_in front = map point_in front.items

-- those of net k's
abbrev pub front_at : List (Vec Found Global) → ℕ → List Point
front_at fronts k = slice_index_or (map points_in fronts) k []

-- lists of fewer than 2^32 points, one list at least, along each of which cost and slack rise strictly
pub record AreFronts (fronts : List (Vec Found Global)) : Type 0 where
  pub some : 0 < length fronts
  pub short : All (λ (front : Vec Found Global). length front.items < 2 ^ 32) fronts
  pub rising : All (λ (front : Vec Found Global). AllPairs Exceeds (points_in front)) fronts

-- x is the total of a choice of one point of each list, within the cap
abbrev pub IsTotalIn : List (Vec Found Global) → Option ℕ → Point → Type 0
IsTotalIn fronts cap x = IsTotal (length fronts) (IsListed (front_at fronts)) cap x

-- a total's cost and slack
abbrev pub total_point : TotalPoint → Point
total_point x = record { cost = x.cost; slack = x.slack }

-- where the pick of net k stands
abbrev pub at_of : List ℕ → ℕ → ℕ
at_of picks k = slice_index_or picks k 0

-- the point that is picked of net k
abbrev pub picked_by : List (Vec Found Global) → List ℕ → ℕ → Point
picked_by fronts picks k = picked (front_at fronts) (at_of picks) k

-- one pick for each list, inside it
pub record ArePicks (fronts : List (Vec Found Global)) (picks : List ℕ) : Type 0 where
  pub one_each : length picks ≡ length fronts
  pub inside : (k : ℕ) → k < length fronts → at_of picks k < length (front_at fronts k)

-- what the picks of the point come to
pub record IsPicked (fronts : List (Vec Found Global)) (x : TotalPoint) : Type 0 where
  pub picks : ArePicks fronts x.picks.items
  pub total : IsTotalOf (length fronts) (picked_by fronts x.picks.items) (total_point x)

-- the frontier of all choices within the cap, each point with picks that come to it
pub record AreTotals (fronts : List (Vec Found Global)) (cap : Option ℕ) (points : List TotalPoint) : Type 0 where
  pub frontier : IsFrontier (IsTotalIn fronts cap) (map total_point points)
  pub picked : All (IsPicked fronts) points
