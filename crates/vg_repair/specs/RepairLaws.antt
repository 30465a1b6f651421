-- What a user knows of repairs.
use Rattle.std.specs.Prelude.{◌≡◌, ℕ, ◌≤◌, List, ℤ, Option, None}
use Rattle.elmore.specs.Best.{IsBest}
use Rattle.elmore.specs.Placements.{cost_of}
use Rattle.elmore.specs.declared.problem.Problem.{Problem}
use Rattle.vg_slack.specs.Bests.{IsGoodWith}
use Rattle.vg_repair.specs.Repairs.{IsEnough, IsGoodWithin, IsRepair}

-- all repairs have one cost and one slack
abbrev pub OneRepair : Type 0
OneRepair =
    (p : Problem) (cap : Option ℕ) (target : ℤ) (cells others : List (Option ℕ)) (x y : ℤ)
    → IsRepair p cap target cells x → IsRepair p cap target others y
    → (cost_of p cells ≡ cost_of p others) × (x ≡ y)

-- a repair is good, has its slack, and is within the cap
abbrev pub RepairsAreGood : Type 0
RepairsAreGood =
    (p : Problem) (cap : Option ℕ) (target : ℤ) (cells : List (Option ℕ)) (x : ℤ) → IsRepair p cap target cells x
    → IsGoodWithin p cap cells x

-- no good placement has slack enough
abbrev pub IsOutOfReach : Problem → ℤ → Type 0
IsOutOfReach p target = (cells : List (Option ℕ)) (x : ℤ) → IsGoodWith p cells x → IsEnough target x → ⊥

-- best, and no best placement costs less
pub record IsCheapestBest (p : Problem) (cells : List (Option ℕ)) (x : ℤ) : Type 0 where
  pub best : IsBest p cells x
  pub least : (others : List (Option ℕ)) (y : ℤ) → IsBest p others y → cost_of p cells ≤ cost_of p others

-- without a cap the repair for a target out of reach is best, at the least cost
abbrev pub FarTargetIsBest : Type 0
FarTargetIsBest =
    (p : Problem) (target : ℤ) (cells : List (Option ℕ)) (x : ℤ) → IsOutOfReach p target
    → IsRepair p None target cells x → IsCheapestBest p cells x
