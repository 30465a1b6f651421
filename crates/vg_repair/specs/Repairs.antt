-- The cheapest placements with slack enough.
use Rattle.std.specs.Prelude.{◌≡◌, ℕ, ◌≤◌, List, ℤ, ◌≤ℤ◌, Option, MatchOption}
use Rattle.elmore.specs.Best.{IsGood}
use Rattle.elmore.specs.Legal.{IsWithin}
use Rattle.elmore.specs.Placements.{cost_of}
use Rattle.elmore.specs.declared.problem.Problem.{Problem}
use Rattle.vg_slack.specs.Bests.{IsGoodWith, HasNoCell, IsBare}
use Rattle.vg_slack.specs.declared.answer.Best.{Best}

-- a slack that meets the target
abbrev pub IsEnough : ℤ → ℤ → Type 0
IsEnough target x = target ≤ℤ x

-- a good placement with this slack, within the cap
pub record IsGoodWithin (p : Problem) (cap : Option ℕ) (cells : List (Option ℕ)) (x : ℤ) : Type 0 where
  pub good : IsGoodWith p cells x
  pub within : IsWithin cap (cost_of p cells)

-- without a cell the net is not good, or has not slack enough
abbrev pub NeedsCells : Problem → ℤ → Type 0
NeedsCells p target = (cells : List (Option ℕ)) (x : ℤ) → IsBare p x cells → IsEnough target x → ⊥

-- slack enough at the least cost, and at this cost the greatest slack
pub record IsCheapest (p : Problem) (cap : Option ℕ) (target : ℤ) (cells : List (Option ℕ)) (x : ℤ) : Type 0 where
  pub good : IsGoodWithin p cap cells x
  pub enough : IsEnough target x
  pub least : (others : List (Option ℕ)) (y : ℤ) → IsGoodWithin p cap others y → IsEnough target y
      → cost_of p cells ≤ cost_of p others
  pub most : (others : List (Option ℕ)) (y : ℤ) → IsGoodWithin p cap others y
      → cost_of p others ≡ cost_of p cells → y ≤ℤ x

-- the greatest slack, which is not enough, at the least cost that has it, and without a cell where that is as good
pub record IsNearest (p : Problem) (cap : Option ℕ) (target : ℤ) (cells : List (Option ℕ)) (x : ℤ) : Type 0 where
  pub good : IsGoodWithin p cap cells x
  pub short : IsEnough target x → ⊥
  pub most : (others : List (Option ℕ)) (y : ℤ) → IsGoodWithin p cap others y → y ≤ℤ x
  pub least : (others : List (Option ℕ)) → IsGoodWithin p cap others x → cost_of p cells ≤ cost_of p others
  pub bare : (others : List (Option ℕ)) → IsBare p x others → HasNoCell cells

-- no cell where none is needed; else the cheapest with slack enough; else the nearest to it
pub data IsRepair (p : Problem) (cap : Option ℕ) (target : ℤ) (cells : List (Option ℕ)) (x : ℤ) : Type 0 where
  kept : IsBare p x cells → IsEnough target x → IsRepair p cap target cells x
  met : NeedsCells p target → IsCheapest p cap target cells x → IsRepair p cap target cells x
  short : IsNearest p cap target cells x → IsRepair p cap target cells x

-- no good placement is within the cap
abbrev pub HasNoneWithin : Problem → Option ℕ → Type 0
HasNoneWithin p cap = (cells : List (Option ℕ)) → IsGood p cells → IsWithin cap (cost_of p cells) → ⊥

-- a repair with its slack, or no good placement is within the cap
abbrev pub IsRepairAnswer : Problem → Option ℕ → ℤ → Option Best → Type 0
IsRepairAnswer p cap target answer =
    MatchOption answer (HasNoneWithin p cap) (λ (best : Best). IsRepair p cap target best.placement.cells best.slack)
