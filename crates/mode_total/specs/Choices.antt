-- The trade-off of cost and slack over all nets of a design: choices of a placement for each accepted net.
use Rattle.std.specs.Prelude.{◌≡◌, ℕ, ℤ, ◌≤ℤ◌, List, [], ◌∷◌, length, map, Option, Some, None}
use Rattle.std.specs.List.{All, AllZip, Contains, slice_get, sum_by}
use Rattle.elmore.specs.Frontier.{Point, IsAttained, IsFrontier, IsOnFrontier, IsPointOf}
use Rattle.vg_front.specs.Points.{point_in}
use Rattle.vg_front.specs.declared.root.Point.{Point as Pick}
use Rattle.spef_wire.specs.declared.refusal.Refusal.{Refusal}
use Rattle.vg_design.specs.Designs.{Design}
use Rattle.vg_design.specs.Nets.{IsNetProblem}
use Rattle.vg_design.specs.Refusals.{IsFirstRefusal}
use Rattle.vg_design.specs.declared.net_problem.NetProblem.{NetProblem}
use Rattle.vg_total.specs.Totals.{IsTotal}

-- An accepted net: its name and its problem.
pub record Accepted : Type 0 where
  pub name : List ℕ
  pub net : NetProblem

-- How a net stands: it is accepted, or it is refused, for the first reason.
pub data Standing : Type 0 where
  accepted : (own : Accepted) → Standing
  refused : (name : List ℕ) → (refusal : Refusal) → Standing

-- how the net of this name stands in a design
abbrev pub Stands : Design → List ℕ → Standing → Type 0
Stands d name (Standing.accepted own) = (own.name ≡ name) × IsNetProblem d name own.net
Stands d name (Standing.refused own refusal) = (own ≡ name) × IsFirstRefusal d name refusal

abbrev pub accepted_in : Standing → List Accepted
accepted_in (Standing.accepted own) = own ∷ []
accepted_in (Standing.refused name refusal) = []

-- ---- choices

-- a good placement of the accepted net of number k has this cost and this slack
abbrev pub of_nets : List Accepted → ℕ → Point → Type 0
of_nets nets k point = (own : Accepted) × (slice_get nets k ≡ Some own) × IsAttained own.net.problem None point

-- The costs and slacks of all choices of a good placement for each net, within the cap, that no other choice outdoes:
-- the sum of the placements' costs, and the least of their slacks.
abbrev pub IsDesignFrontier : List Accepted → Option ℕ → List Point → Type 0
IsDesignFrontier nets cap points = IsFrontier (IsTotal (length nets) (of_nets nets) cap) points

-- A choice: what it costs, its slack, and for each net the placement that it takes, with its cost and its slack.
pub record Choice : Type 0 where
  pub cost : ℕ
  pub slack : ℤ
  pub picks : List Pick

abbrev pub total_of : Choice → Point
total_of choice = record { cost = choice.cost; slack = choice.slack }

-- the placement is good, has this cost and this slack, and no other one of the net within the cap outdoes it
pub record IsPick (cap : Option ℕ) (own : Accepted) (pick : Pick) : Type 0 where
  pub placed : IsPointOf own.net.problem cap pick.placement.cells (point_in pick)
  pub alone : IsOnFrontier (IsAttained own.net.problem cap) (point_in pick)

-- one placement for each net, which cost so much together, and this is the least of their slacks
pub record IsChoice (cap : Option ℕ) (nets : List Accepted) (choice : Choice) : Type 0 where
  pub each : AllZip (IsPick cap) nets choice.picks
  pub cost : choice.cost ≡ sum_by (λ pick. pick.cost) choice.picks
  pub least : All (λ pick. choice.slack ≤ℤ pick.slack) choice.picks
  pub met : Contains (map (λ pick. pick.slack) choice.picks) choice.slack

-- each point of the total frontier once, by rising cost, with a choice that comes to it
pub record AreChoices (nets : List Accepted) (cap : Option ℕ) (choices : List Choice) : Type 0 where
  pub frontier : IsDesignFrontier nets cap (map total_of choices)
  pub each : All (IsChoice cap nets) choices

-- what the last choice takes, where there is one: the most slack of all, at the least cost that has it
abbrev pub last_picks : List Choice → List Pick
last_picks [] = []
last_picks (choice ∷ []) = choice.picks
last_picks (choice ∷ other ∷ choices) = last_picks (other ∷ choices)
