-- The answer of a search: a best placement of a net, if it has a good one.
use Rattle.std.specs.Prelude.{◌≡◌, ℕ, ℤ, List, Option, None, slice_index_or, MatchOption}
use Rattle.elmore.specs.Best.{IsGood, IsBest}
use Rattle.elmore.specs.Placements.{IsSlack}
use Rattle.elmore.specs.declared.problem.Problem.{Problem}
use Rattle.vg_slack.specs.declared.answer.Best.{Best}

pub record IsGoodWith (p : Problem) (cells : List (Option ℕ)) (x : ℤ) : Type 0 where
  pub good : IsGood p cells
  pub slack : IsSlack p cells x

-- no node has a cell
abbrev pub HasNoCell : List (Option ℕ) → Type 0
HasNoCell cells = (v : ℕ) → slice_index_or cells v None ≡ None

-- the placement without a cell is good with this slack, or it is not
abbrev pub IsBare : Problem → ℤ → List (Option ℕ) → Type 0
IsBare p x cells = HasNoCell cells × IsGoodWith p cells x

abbrev pub NoneIsBare : Problem → ℤ → Type 0
NoneIsBare p x = (cells : List (Option ℕ)) → IsBare p x cells → ⊥

-- a placement is best, and has no cell where one without a cell is best
pub record IsFound (p : Problem) (found : Best) : Type 0 where
  pub best : IsBest p found.placement.cells found.slack
  pub bare : (cells : List (Option ℕ)) (x : ℤ) → HasNoCell cells → IsBest p cells x → HasNoCell found.placement.cells

abbrev pub HasNoGood : Problem → Type 0
HasNoGood p = (cells : List (Option ℕ)) → IsGood p cells → ⊥

-- a best placement was found, or none is good
abbrev pub IsAnswer : Problem → Option Best → Type 0
IsAnswer p answer = MatchOption answer (HasNoGood p) (IsFound p)
