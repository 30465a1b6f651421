-- What repeaters make of candidates that they drive.
use Rattle.std.specs.Prelude.{◌≡◌, ℕ, ◌+◌, ◌*◌, ◌<◌, Bool, not, cond, List, length, ◌-ℤ◌, pos, Option, Some, None}
use Rattle.std.specs.List.{Contains}
use Rattle.elmore.specs.Allowances.{allowed_at, Allows}
use Rattle.elmore.specs.Cells.{rep_at}
use Rattle.elmore.specs.Legal.{IsWithin}
use Rattle.elmore.specs.declared.problem.Problem.{Problem}
use Rattle.elmore.specs.declared.rep.Rep.{Rep}
use Rattle.cand_pairs.specs.Priced.{Beats}
use Rattle.vg_front.specs.Offers.{priced, proposed_by, IsBeaten, IsPartOf, With}
use Rattle.vg_front.specs.declared.offer.Candidate.{Candidate}
use Rattle.vg_front.specs.declared.offer.Offer.{Offer}
use Rattle.vg_front.specs.declared.offer.Origin.TheVariants.{Cell}
use Rattle.vg_front.specs.declared.offer.Proposal.{Proposal}

-- an offer behind a repeater, and with its cost
abbrev pub driven_offer : Rep → Offer → Offer
driven_offer rep x = record { cost = x.cost + rep.cost; q = x.q -ℤ pos (rep.k + rep.r * x.c); c = rep.cin }

-- there is an offer, and it beats x
abbrev pub BeatsBy : Option Offer → Offer → Type 0
BeatsBy None x = ⊥
BeatsBy (Some best) x = Beats (priced best) (priced x)

-- if there is an offer, one of these beats it
abbrev pub IsReached : List Proposal → Option Offer → Type 0
IsReached xs None = Unit {0}
IsReached xs (Some best) = IsBeaten (proposed_by xs) (priced best)

-- a repeater of a number at a node
pub record Stand : Type 0 where
  pub node : ℕ
  pub number : ℕ
  pub rep : Rep

-- what it proposes for a candidate
abbrev pub driven_at : Stand → Candidate → Proposal
driven_at at x = record { offer = driven_offer at.rep x.offer; origin = Cell at.node at.number x.sol }

-- a candidate that it may drive, within the cap
pub record IsDrivable (rep : Rep) (cap : Option ℕ) (x : Candidate) : Type 0 where
  pub limit : IsWithin rep.limit x.offer.c
  pub costs : IsWithin cap (x.offer.cost + rep.cost)

-- it is proposed for one of these candidates
abbrev pub IsDriven : Stand → Option ℕ → List Candidate → Proposal → Type 0
IsDriven at cap xs p = (x : Candidate) × Contains xs x × IsDrivable at.rep cap x × (p ≡ driven_at at x)

-- where it may drive the candidate, it is proposed besides, and else nothing
pub record IsTried (at : Stand) (cap : Option ℕ) (x : Candidate) (before after : List Proposal) : Type 0 where
  pub drives : IsDrivable at.rep cap x → IsPartOf (With before (driven_at at x)) after
  pub passes : (IsDrivable at.rep cap x → ⊥) → after ≡ before

-- the repeater b of a problem at a node
abbrev pub stand_of : Problem → ℕ → ℕ → Stand
stand_of p v b = record { node = v; number = b; rep = rep_at p.reps b }

-- the class behind a repeater that is reached in a class
abbrev pub behind : Rep → Bool → Bool
behind rep odd = cond rep.inverts (not odd) odd

-- a repeater of a problem is proposed which the node allows, for a candidate of the class behind it
abbrev pub IsCelled : Problem → ℕ → Bool → Option ℕ → (Bool → List Candidate) → Proposal → Type 0
IsCelled p v odd cap classes q =
    (b : ℕ) × (b < length p.reps) × Allows (allowed_at p.allowed v) b
    × IsDriven (stand_of p v b) cap (classes (behind (rep_at p.reps b) odd)) q
