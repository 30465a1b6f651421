-- Repeaters that are tried before candidates.
use Rattle.std.specs.Prelude.{◌≡◌, ℕ, ◌*◌, ◌<◌, ◌≤◌, Bool, List, length, slice_index_or, ℤ, ◌≤ℤ◌, ◌-ℤ◌, pos, Option}
use Rattle.std.specs.List.{Contains, AllPairs}
use Rattle.elmore.specs.Allowances.{allowed_at, Allows}
use Rattle.elmore.specs.Cells.{rep_at}
use Rattle.elmore.specs.Legal.{IsWithin}
use Rattle.elmore.specs.declared.problem.Problem.{Problem}
use Rattle.elmore.specs.declared.rep.Rep.{Rep}
use Rattle.vg_front.specs.Driving.{IsReached, IsDriven, Stand, stand_of, behind}
use Rattle.vg_front.specs.declared.offer.Candidate.{Candidate}
use Rattle.vg_front.specs.declared.offer.Offer.{Offer}
use Rattle.vg_front.specs.declared.offer.Proposal.{Proposal}
use Rattle.vg_front.specs.declared.tries.Site.{Site}

-- the time of an offer before a resistor that charges its load
abbrev pub before : ℕ → Offer → ℤ
before r x = x.q -ℤ pos (r * x.c)

-- of the first n candidates, the one of number `at` has the greatest time before the resistor
pub record IsLatest (xs : List Candidate) (n r at : ℕ) : Type 0 where
  pub inside : at < n
  pub latest : (k : ℕ) (d : Candidate) → k < n
      → before r (slice_index_or xs k d).offer ≤ℤ before r (slice_index_or xs at d).offer

-- a repeater of a number at a site
abbrev pub stand_at : Site → ℕ → Rep → Stand
stand_at site number rep = record { node = site.node; number = number; rep = rep }

-- a repeater of a list is proposed at a site for one of these candidates
abbrev pub IsTriedBy : Site → List Rep → List Candidate → ℕ → Proposal → Type 0
IsTriedBy site reps xs b = IsDriven (stand_at site b (rep_at reps b)) site.cap xs

-- numbers of repeaters, by rising resistance
pub record AreNumbers (reps : List Rep) (numbers : List ℕ) : Type 0 where
  pub named : (b : ℕ) → Contains numbers b → b < length reps
  pub rising : AllPairs (λ a b. (rep_at reps a).r ≤ (rep_at reps b).r) numbers

-- an offer for each repeater, if there is one, and each is beaten by a proposal
pub record AreBests (reps : List Rep) (made : List Proposal) (bests : List (Option Offer)) : Type 0 where
  pub one_each : length bests ≡ length reps
  pub reached : (best : Option Offer) → Contains bests best → IsReached made best

-- each of these repeaters may charge a load
abbrev pub DriveAll : List Rep → List ℕ → ℕ → Type 0
DriveAll reps numbers c = (b : ℕ) → Contains numbers b → IsWithin (rep_at reps b).limit c

-- the node allows a repeater that is reached in this class, with the class `below` behind it
pub record IsUsable (p : Problem) (v : ℕ) (odd below : Bool) (b : ℕ) : Type 0 where
  pub named : b < length p.reps
  pub allows : Allows (allowed_at p.allowed v) b
  pub class : behind (rep_at p.reps b) odd ≡ below

-- the numbers of all these repeaters, by rising resistance
pub record AreUsable (p : Problem) (v : ℕ) (odd below : Bool) (numbers : List ℕ) : Type 0 where
  pub part : (b : ℕ) → Contains numbers b → IsUsable p v odd below b
  pub whole : (b : ℕ) → IsUsable p v odd below b → Contains numbers b
  pub rising : AreNumbers p.reps numbers

-- one of them is proposed within the cap for one of these candidates
abbrev pub IsUsed : Problem → ℕ → Bool → Bool → Option ℕ → List Candidate → Proposal → Type 0
IsUsed p v odd below cap xs q = (b : ℕ) × IsUsable p v odd below b × IsDriven (stand_of p v b) cap xs q
