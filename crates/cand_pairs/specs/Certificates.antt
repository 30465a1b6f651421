-- Certificates: a placement with its slack, or none, and a list of pairs for each node and class that shows that no
-- good placement has more. The lists of a certificate need not be those of any method: a cover is enough.
use Rattle.std.specs.Prelude.{◌↔◌, ℕ, Bool, List, ℤ, Option, Some, None}
use Rattle.elmore.specs.Best.{IsGood, IsBest}
use Rattle.elmore.specs.Pairs.{IsUndominated}
use Rattle.elmore.specs.Placements.{IsSlack}
use Rattle.cand_pairs.specs.Candidates.{IsOpen, IsCoveredAt, IsCover, IsBoundedBy, of_lists, at_root, NodeLists, DrivesNone}
use Rattle.cand_pairs.specs.Merging.{Owns, AreCoveredBy}
use Rattle.elmore.specs.declared.pair.Pair.{Pair}
use Rattle.elmore.specs.declared.problem.Problem.{Problem}

-- the placement is good with this slack, the lists cover what comes from them, and no even pair at the root is worth
-- more
pub record IsValidBest (p : Problem) (cells : List (Option ℕ)) (lists : NodeLists) (x : ℤ) : Type 0 where
  pub good : IsGood p cells
  pub slack : IsSlack p cells x
  pub cover : IsCover p (of_lists lists)
  pub bound : IsBoundedBy p (at_root (of_lists lists)) x

-- the lists cover what comes from them, and no even pair at the root is one that the driver may charge
pub record IsValidNone (p : Problem) (lists : NodeLists) : Type 0 where
  pub cover : IsCover p (of_lists lists)
  pub empty : DrivesNone p (at_root (of_lists lists))

abbrev pub IsValid : Problem → Option ℤ → List (Option ℕ) → NodeLists → Type 0
IsValid p None cells lists = IsValidNone p lists
IsValid p (Some x) cells lists = IsValidBest p cells lists x

-- what a valid certificate shows, whoever made it
abbrev pub IsShown : Problem → Option ℤ → List (Option ℕ) → Type 0
IsShown p None cells = (others : List (Option ℕ)) → IsGood p others → ⊥
IsShown p (Some x) cells = IsBest p cells x

abbrev pub ValidShows : Type 0
ValidShows = (p : Problem) (slack : Option ℤ) (cells : List (Option ℕ)) (lists : NodeLists)
    → IsValid p slack cells lists → IsShown p slack cells

-- to see that a node is covered, the undominated lists of its children's choices serve for all of them
abbrev pub JoinsDecide : Type 0
JoinsDecide = (p : Problem) (lists : NodeLists) (v : ℕ) (joins : Bool → List Pair)
    → ((odd : Bool) → IsUndominated (IsOpen p (of_lists lists) v odd) (joins odd))
    → IsCoveredAt p (of_lists lists) v ↔ ((odd : Bool) → AreCoveredBy (Owns p v odd joins) (lists v odd))
