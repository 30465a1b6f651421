-- The frontier that a search answers.
use Rattle.std.specs.Prelude.{ℕ, List, map, Option}
use Rattle.std.specs.List.{All}
use Rattle.elmore.specs.Frontier.{Point, IsPointOf, IsAttained, IsFrontier}
use Rattle.elmore.specs.declared.problem.Problem.{Problem}
use Rattle.vg_front.specs.declared.root.Point.{Point as Found}

-- a point's cost and slack
abbrev pub point_in : Found → Point
point_in found = record { cost = found.cost; slack = found.slack }

-- the points of the good placements within the cap that no other outdoes, by rising cost, each with such a placement
pub record IsFrontierOf (p : Problem) (cap : Option ℕ) (found : List Found) : Type 0 where
  pub frontier : IsFrontier (IsAttained p cap) (map point_in found)
  pub placed : All (λ (x : Found). IsPointOf p cap x.placement.cells (point_in x)) found
