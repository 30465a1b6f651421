-- What a user knows of pairs at a node, of covers and of what is best.
use Rattle.std.specs.Prelude.{◌↔◌, ℕ, Bool, false, List, ℤ, ◌≤ℤ◌, Option}
use Rattle.std.specs.List.{Contains}
use Rattle.elmore.specs.Best.{IsGood, IsBest}
use Rattle.elmore.specs.Pairs.{IsPairOf, IsPairAt, IsUndominated}
use Rattle.elmore.specs.Placements.{IsSlack}
use Rattle.cand_pairs.specs.Candidates.{at_root, NodeLists, IsCoveredBy, DrivesNone, AreExact, of_lists, IsBoundedBy, Drives, IsCover, AreStepLists, live_children, root_value, IsStep}
use Rattle.elmore.specs.declared.pair.Pair.{Pair}
use Rattle.elmore.specs.declared.problem.Problem.{Problem}

-- the pairs at a node are those that come from the pairs at its live children
abbrev pub PairsStep : Type 0
PairsStep = (p : Problem) (v : ℕ) (odd : Bool) (x : Pair) → IsPairAt p v odd x ↔ IsStep p (IsPairAt p) v odd x

-- each pair of these lists at a child of v is dominated by one of those lists
abbrev pub AreNoWorse : Problem → ℕ → NodeLists → NodeLists → Type 0
AreNoWorse p v these those =
    (u : ℕ) (odd : Bool) (x : Pair) → Contains (live_children p v) u → Contains (these u odd) x
    → IsCoveredBy (Contains (those u odd)) x

-- no worse pairs at the children come to no worse pairs at the node
abbrev pub StepIsMonotone : Type 0
StepIsMonotone = (p : Problem) (these those : NodeLists) (v : ℕ) (odd : Bool) (x : Pair) → AreNoWorse p v these those
    → IsStep p (of_lists these) v odd x → IsCoveredBy (IsStep p (of_lists those) v odd) x

-- lists that cover what comes from them cover the pairs of all placements
abbrev pub CoverHolds : Type 0
CoverHolds = (p : Problem) (lists : NodeLists) → IsCover p (of_lists lists)
    → (v : ℕ) (odd : Bool) (x : Pair) → IsPairAt p v odd x → IsCoveredBy (Contains (lists v odd)) x

-- no good placement has more slack than a cover allows at the root
abbrev pub CoverBounds : Type 0
CoverBounds = (p : Problem) (lists : NodeLists) (most : ℤ) → IsCover p (of_lists lists)
    → IsBoundedBy p (at_root (of_lists lists)) most
    → (cells : List (Option ℕ)) (x : ℤ) → IsGood p cells → IsSlack p cells x → x ≤ℤ most

-- and where it has no even pair at the root that the driver may charge, no placement is good
abbrev pub CoverExcludes : Type 0
CoverExcludes = (p : Problem) (lists : NodeLists) → IsCover p (of_lists lists) → DrivesNone p (at_root (of_lists lists))
    → (cells : List (Option ℕ)) → IsGood p cells → ⊥

-- lists that are undominated for what comes from them are so for the pairs of all placements
abbrev pub StepListsAreExact : Type 0
StepListsAreExact = (p : Problem) (lists : NodeLists) → AreStepLists p lists → AreExact p lists

-- and these cover what comes from them
abbrev pub ExactListsCover : Type 0
ExactListsCover = (p : Problem) (lists : NodeLists) → AreExact p lists → IsCover p (of_lists lists)

-- the even pairs at the root that the driver may charge are those of good placements, each worth the placement's slack
pub record AreRootPairs (p : Problem) (cells : List (Option ℕ)) : Type 0 where
  pub good : (x : Pair) → IsPairOf p 0 false cells x → Drives p x → IsGood p cells
  pub slack : (x : Pair) → IsPairOf p 0 false cells x → IsSlack p cells (root_value p x)
  pub pair : IsGood p cells → (x : Pair) × IsPairOf p 0 false cells x × Drives p x

abbrev pub RootPairs : Type 0
RootPairs = (p : Problem) (cells : List (Option ℕ)) → AreRootPairs p cells

-- a placement that comes to a pair of greatest worth of an exact list at the root is best
abbrev pub RootDecides : Type 0
RootDecides =
    (p : Problem) (xs : List Pair) (cells : List (Option ℕ)) (x : Pair) → IsUndominated (IsPairAt p 0 false) xs
    → IsPairOf p 0 false cells x → Drives p x → IsBoundedBy p (Contains xs) (root_value p x)
    → IsBest p cells (root_value p x)
