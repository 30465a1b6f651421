-- What candidates and proposals come to, as pairs with their costs.
use Rattle.std.specs.Prelude.{◌≡◌, ◌⊎◌, ℕ, ◌+◌, ◌<◌, List, map, length, slice_index_or}
use Rattle.std.specs.List.{Contains}
use Rattle.cand_pairs.specs.Priced.{Priced, IsBeatenBy}
use Rattle.vg_front.specs.declared.offer.Offer.{Offer}
use Rattle.vg_front.specs.declared.offer.Candidate.{Candidate}
use Rattle.vg_front.specs.declared.offer.Proposal.{Proposal}

abbrev pub priced : Offer → Priced
priced x = record { cost = x.cost; pair = record { q = x.q; c = x.c } }

-- what all these candidates come to, and all these proposals
abbrev pub offers_of : List Candidate → List Priced
offers_of xs = map (λ x. priced x.offer) xs

abbrev pub proposed_by : List Proposal → List Priced
proposed_by xs = map (λ x. priced x.offer) xs

-- one of these beats x
abbrev pub IsBeaten : List Priced → Priced → Type 0
IsBeaten zs x = IsBeatenBy (Contains zs) x

-- some proposals are of a set, and beat it all
pub record IsPartOf (In : Proposal → Type 0) (xs : List Proposal) : Type 0 where
  pub part : (x : Proposal) → Contains xs x → In x
  pub covers : (x : Proposal) → In x → IsBeaten (proposed_by xs) (priced x.offer)

-- one of these, or this one; one of these, or of a set
abbrev pub With : List Proposal → Proposal → Proposal → Type 0
With xs y x = Contains xs x ⊎ (x ≡ y)

abbrev pub Or : List Proposal → (Proposal → Type 0) → Proposal → Type 0
Or xs In x = Contains xs x ⊎ In x

-- of a set that goes with one of these
abbrev pub OfSome : {X Y : Type 0} → List X → (X → Y → Type 0) → Y → Type 0
OfSome {X} xs In y = (x : X) × Contains xs x × In x y

-- a list grew by proposals of a set, which beat it all
abbrev pub Adds : (Proposal → Type 0) → List Proposal → List Proposal → Type 0
Adds In old new = IsPartOf (Or old In) new

-- x is the element of number i, and the next number is i'
pub record IsTaken {X : Type 0} (xs : List X) (i i' : ℕ) (x : X) : Type 0 where
  pub inside : i < length xs
  pub next : i' ≡ i + 1
  pub here : slice_index_or xs i x ≡ x

-- x comes next of two lists, from numbers i and j on
abbrev pub IsNext : {X : Type 0} → List X → List X → ℕ → ℕ → ℕ → ℕ → X → Type 0
IsNext xs ys i j i' j' x = (IsTaken xs i i' x × (j' ≡ j)) ⊎ (IsTaken ys j j' x × (i' ≡ i))
