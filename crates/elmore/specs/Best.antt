-- Good placements, and the best of them.
use Rattle.std.specs.Prelude.{ℕ, List, ℤ, ◌≤ℤ◌, Option}
use Rattle.elmore.specs.Placements.{IsPlacement, IsSlack, HasPolarity}
use Rattle.elmore.specs.Legal.{IsLegal}
use Rattle.elmore.specs.declared.problem.Problem.{Problem}

-- legal, and every sink has its wanted polarity
pub record IsGood (p : Problem) (cells : List (Option ℕ)) : Type 0 where
  pub placement : IsPlacement p cells
  pub legal : IsLegal p cells
  pub wanted : (w : ℕ) → HasPolarity p cells w

-- good with slack x, and no good placement has more
pub record IsBest (p : Problem) (cells : List (Option ℕ)) (x : ℤ) : Type 0 where
  pub good : IsGood p cells
  pub slack : IsSlack p cells x
  pub most : (others : List (Option ℕ)) (y : ℤ) → IsGood p others → IsSlack p others y → y ≤ℤ x
