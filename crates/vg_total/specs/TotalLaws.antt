-- What a user knows of totals.
use Rattle.std.specs.Prelude.{◌≡◌, ◌↔◌, ℕ, ◌<◌, List, [], length, map, slice_index_or, Option}
use Rattle.std.specs.List.{AllPairs}
use Rattle.std.specs.declared.vec.Vec.{Vec}
use Rattle.std.specs.declared.alloc.Global.{Global}
use Rattle.elmore.specs.Frontier.{Point, IsAttained, IsFrontier}
use Rattle.elmore.specs.FrontierLaws.{Exceeds}
use Rattle.elmore.specs.declared.problem.Problem.{Problem}
use Rattle.vg_front.specs.Points.{point_in, IsFrontierOf}
use Rattle.vg_front.specs.declared.root.Point.{Point as Found}
use Rattle.vg_total.specs.Totals.{IsTotal, IsListed, IsTotalFrontier}
use Rattle.vg_total.specs.Picks.{IsTotalIn, total_point, AreTotals}
use Rattle.vg_total.specs.declared.pick.TotalPoint.{TotalPoint}

-- the choices among the nets' frontiers, each under the same cap, serve for all choices of placements
abbrev pub TotalOfFrontiers : Type 0
TotalOfFrontiers =
    (n : ℕ) (problems : ℕ → Problem) (fronts : ℕ → List Point) (cap : Option ℕ) (points : List Point)
    → ((k : ℕ) → k < n → IsFrontier (IsAttained (problems k) cap) (fronts k))
    → IsFrontier (IsTotal n (IsListed fronts) cap) points → IsTotalFrontier n problems cap points

-- the list of each net is the frontier that a search finds for its problem under the cap
abbrev pub AreFrontiersOf : (ℕ → Problem) → Option ℕ → List (Vec Found Global) → Type 0
AreFrontiersOf problems cap fronts =
    (k : ℕ) (d : Vec Found Global) → k < length fronts
    → IsFrontierOf (problems k) cap (slice_index_or fronts k d).items

-- so the totals of such lists are the frontier over all choices of placements
abbrev pub TotalOfNets : Type 0
TotalOfNets =
    (problems : ℕ → Problem) (fronts : List (Vec Found Global)) (cap : Option ℕ) (points : List TotalPoint)
    → AreFrontiersOf problems cap fronts → AreTotals fronts cap points
    → IsTotalFrontier (length fronts) problems cap (map total_point points)

-- no choice of one point of each list is within the cap
abbrev pub HasNoChoice : List (Vec Found Global) → Option ℕ → Type 0
HasNoChoice fronts cap = (x : Point) → IsTotalIn fronts cap x → ⊥

-- there is no point exactly where no choice is within the cap
abbrev pub EmptyWhereNoChoice : Type 0
EmptyWhereNoChoice =
    (fronts : List (Vec Found Global)) (cap : Option ℕ) (points : List TotalPoint) → AreTotals fronts cap points
    → (points ≡ []) ↔ HasNoChoice fronts cap

-- along the points that a search found for a net both cost and slack rise strictly
abbrev pub FoundPointsRise : Type 0
FoundPointsRise = (p : Problem) (cap : Option ℕ) (found : List Found) → IsFrontierOf p cap found
    → AllPairs Exceeds (map point_in found)
