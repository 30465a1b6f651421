-- Candidates of two branches together.
use Rattle.std.specs.Prelude.{◌≡◌, ◌⊎◌, ℕ, ◌+◌, ◌-◌, ◌<◌, ◌≤◌, List, length, slice_index_or, ℤ, ◌≤ℤ◌, Option}
use Rattle.std.specs.Int.{int_min}
use Rattle.std.specs.List.{Contains}
use Rattle.elmore.specs.Legal.{IsWithin}
use Rattle.vg_front.specs.declared.offer.Candidate.{Candidate}
use Rattle.vg_front.specs.declared.offer.Offer.{Offer}
use Rattle.vg_front.specs.declared.offer.Origin.TheVariants.{Join}
use Rattle.vg_front.specs.declared.offer.Proposal.{Proposal}

-- two offers together: both costs, the lesser time and both loads
abbrev pub met_offer : Offer → Offer → Offer
met_offer x y = record { cost = x.cost + y.cost; q = int_min x.q y.q; c = x.c + y.c }

-- what is proposed for two candidates together
abbrev pub met_of : Candidate → Candidate → Proposal
met_of x y = record { offer = met_offer x.offer y.offer; origin = Join x.sol y.sol }

-- it is proposed for a candidate of each list
abbrev pub IsMetOf : List Candidate → List Candidate → Proposal → Type 0
IsMetOf xs ys q = (x : Candidate) × (y : Candidate) × Contains xs x × Contains ys y × (q ≡ met_of x y)

-- within the cap
abbrev pub IsMet : Option ℕ → List Candidate → List Candidate → Proposal → Type 0
IsMet cap xs ys q =
    (x : Candidate) × (y : Candidate) × Contains xs x × Contains ys y
    × IsWithin cap (x.offer.cost + y.offer.cost) × (q ≡ met_of x y)

-- neither the costs nor the loads fall along the list
abbrev pub IsRun : List Candidate → Type 0
IsRun xs =
    (k m : ℕ) (d : Candidate) → k ≤ m → m < length xs
    → ((slice_index_or xs k d).offer.cost ≤ (slice_index_or xs m d).offer.cost)
    × ((slice_index_or xs k d).offer.c ≤ (slice_index_or xs m d).offer.c)

-- the one with the lesser time comes next in its list, or both where the times are equal
pub record IsAdvance (x y : ℤ) (i j i' j' : ℕ) : Type 0 where
  pub first : ((i' ≡ i + 1) × (x ≤ℤ y)) ⊎ (i' ≡ i)
  pub second : ((j' ≡ j + 1) × (y ≤ℤ x)) ⊎ (j' ≡ j)
  pub more : i + j < i' + j'

-- the candidates from number `from` to before number `end` have one cost, and rise by load
pub record IsRunAt (xs : List Candidate) (from end : ℕ) : Type 0 where
  pub some : from < end
  pub within : end ≤ length xs
  pub costs : (k : ℕ) (d : Candidate) → from ≤ k → k < end
      → (slice_index_or xs k d).offer.cost ≡ (slice_index_or xs from d).offer.cost
  pub rises : (k m : ℕ) (d : Candidate) → from ≤ k → k ≤ m → m < end
      → (slice_index_or xs k d).offer.c ≤ (slice_index_or xs m d).offer.c

-- one more belongs to the run
pub record GoesOn (xs : List Candidate) (from end : ℕ) : Type 0 where
  pub inside : end < length xs
  pub cost : (d : Candidate) → (slice_index_or xs end d).offer.cost ≡ (slice_index_or xs from d).offer.cost
  pub load : (d : Candidate) → (slice_index_or xs (end - 1) d).offer.c ≤ (slice_index_or xs end d).offer.c
