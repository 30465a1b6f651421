-- What is found in a certificate, part by part, and which of it is answered.
use Rattle.std.specs.Prelude.{◌≡◌, ◌≢◌, ℕ, ◌<◌, List, ℤ, ◌<ℤ◌, Option, Some, None, IsSome, MatchOption, ⊤}
use Rattle.std.specs.List.{Contains}
use Rattle.elmore.specs.Best.{IsGood}
use Rattle.elmore.specs.Legal.{IsFirstIllegal}
use Rattle.elmore.specs.Placements.{IsSlack, IsFirstWrong}
use Rattle.elmore.specs.declared.pair.Pair.{Pair}
use Rattle.elmore.specs.declared.problem.Problem.{Problem}
use Rattle.cand_pairs.specs.Candidates.{NodeLists, IsLive, IsCoveredAt, IsBoundedBy, Drives, DrivesNone, root_value, of_lists, at_root}
use Rattle.vg_cert.specs.Fits.{lists_of}
use Rattle.vg_cert.specs.declared.certificate.Certificate.{Certificate}
use Rattle.vg_check.specs.declared.verdict.Verdict.{Verdict}
use Rattle.vg_check.specs.declared.verdict.Verdict.TheVariants.{Yes, Illegal, WrongPolarity, WrongSlack, Uncovered, NotBest}

-- of the nodes with a sink at or below them, v is the one of greatest number that the lists do not cover
pub record IsLastUncovered (p : Problem) (lists : NodeLists) (v : ℕ) : Type 0 where
  pub live : IsLive p v
  pub uncovered : IsCoveredAt p (of_lists lists) v → ⊥
  pub after : (w : ℕ) → v < w → IsLive p w → IsCoveredAt p (of_lists lists) w

-- the greatest slack that the driver makes of the pairs of a set that it may charge
pub record IsRootBound (p : Problem) (In : Pair → Type 0) (most : ℤ) : Type 0 where
  pub bound : IsBoundedBy p In most
  pub met : (x : Pair) × In x × Drives p x × (most ≡ root_value p x)

-- of the pairs of a list, if there is one
abbrev pub IsBoundOf : Problem → List Pair → Option ℤ → Type 0
IsBoundOf p xs found = MatchOption found (DrivesNone p (Contains xs)) (IsRootBound p (Contains xs))

-- more than the slack that was written, if one was
abbrev pub IsOver : Option ℤ → ℤ → Type 0
IsOver None most = ⊤
IsOver (Some slack) most = slack <ℤ most

-- a verdict says of a certificate what is wrong with it; the placement matters only where a slack was written
abbrev pub Finds : Problem → Certificate → Verdict → Type 0
Finds p cert (Illegal v) = IsSome cert.slack × IsFirstIllegal p cert.placement.cells v
Finds p cert (WrongPolarity w) = IsSome cert.slack × IsFirstWrong p cert.placement.cells w
Finds p cert (WrongSlack written real) =
    (cert.slack ≡ Some written) × IsSlack p cert.placement.cells real × (written ≢ real)
Finds p cert (Uncovered v) = IsLastUncovered p (lists_of cert) v
Finds p cert (NotBest written bound) =
    (cert.slack ≡ written) × IsRootBound p (at_root (of_lists (lists_of cert))) bound × IsOver written bound
Finds p cert Yes = ⊤

-- in which order the parts of a certificate are looked at
abbrev pub turn_of : Verdict → ℕ
turn_of (Illegal v) = 0
turn_of (WrongPolarity w) = 1
turn_of (WrongSlack written real) = 2
turn_of (Uncovered v) = 3
turn_of (NotBest written bound) = 4
turn_of Yes = 5

-- it is so as the verdict says, and nothing is wrong with the parts before
pub record IsVerdict (p : Problem) (cert : Certificate) (verdict : Verdict) : Type 0 where
  pub found : Finds p cert verdict
  pub first : (other : Verdict) → turn_of other < turn_of verdict → Finds p cert other → ⊥

-- the placement is good and has the slack
pub record IsGoodWith (p : Problem) (cells : List (Option ℕ)) (x : ℤ) : Type 0 where
  pub good : IsGood p cells
  pub slack : IsSlack p cells x

-- it is so where a slack was written
abbrev pub IsPlacementSound : Problem → Certificate → Type 0
IsPlacementSound p cert = (slack : ℤ) → cert.slack ≡ Some slack → IsGoodWith p cert.placement.cells slack

-- it says what is wrong
abbrev pub IsFault : Problem → Certificate → Verdict → Type 0
IsFault p cert verdict = IsVerdict p cert verdict × (verdict ≢ Yes)

-- a certificate has no two verdicts
abbrev pub OneVerdict : Type 0
OneVerdict = (p : Problem) (cert : Certificate) (a b : Verdict) → IsVerdict p cert a → IsVerdict p cert b → a ≡ b
