-- Lists of candidates, and what they hold of an arena: each candidate one use of its solution.
use Rattle.std.specs.Prelude.{◌≡◌, ◌⊎◌, ℕ, ◌+◌, ◌*◌, ◌^◌, ◌≤◌, List, map, ◌≤ℤ◌, ◌-ℤ◌, pos}
use Rattle.std.specs.List.{Contains}
use Rattle.sol_arena.specs.declared.slot.Made.{Made}
use Rattle.sol_arena.specs.declared.slot.Slot.{Slot}
use Rattle.sol_arena.specs.Meanings.{cells_of}
use Rattle.cand_pool.specs.Candidates.{Candidate as Tagged, Candidates as TaggedList}
use Rattle.cand_uses.specs.Uses.{HoldsFor, IsExchange}
use Rattle.vg_front.specs.declared.offer.Offer.{Offer}
use Rattle.vg_front.specs.declared.offer.Candidate.{Candidate}
use Rattle.vg_front.specs.Offers.{priced, offers_of, IsBeaten}

-- a candidate without its cost, and all of a list so
abbrev pub tagged : Candidate → Tagged
tagged x = record { q = x.offer.q; c = x.offer.c; tag = x.sol.0 }

abbrev pub tagged_all : List Candidate → TaggedList
tagged_all xs = map tagged xs

-- callers hold one use of the solution of each of these
abbrev pub AreHeld : List Slot → List Candidate → Type 0
AreHeld slots xs = HoldsFor slots (tagged_all xs)

-- the uses of some candidates were given up for those of others
abbrev pub IsGiven : List Slot → List Candidate → List Slot → List Candidate → Type 0
IsGiven old xs new ys = IsExchange old (tagged_all xs) new (tagged_all ys)

-- the solution of each of these has the cells that it had
abbrev pub MeanTheSame : List Made → List Made → List Candidate → Type 0
MeanTheSame old new xs = (x : Candidate) → Contains xs x → cells_of new x.sol.0 ≡ cells_of old x.sol.0

-- some candidates of a list, which beat all of it
pub record IsPruned (xs zs : List Candidate) : Type 0 where
  pub part : (x : Candidate) → Contains zs x → Contains xs x
  pub covers : (x : Candidate) → Contains xs x → IsBeaten (offers_of zs) (priced x.offer)

-- some candidates of two lists, which beat both
pub record IsBlend (xs ys zs : List Candidate) : Type 0 where
  pub part : (x : Candidate) → Contains zs x → Contains xs x ⊎ Contains ys x
  pub first : (x : Candidate) → Contains xs x → IsBeaten (offers_of zs) (priced x.offer)
  pub second : (x : Candidate) → Contains ys x → IsBeaten (offers_of zs) (priced x.offer)

-- small enough for one more step
pub record IsBounded (x : Offer) : Type 0 where
  pub cost : x.cost ≤ 10 ^ 17
  pub low : (pos 0 -ℤ pos (10 ^ 25)) ≤ℤ x.q
  pub high : x.q ≤ℤ pos (10 ^ 23)
  pub load : x.c ≤ 10 ^ 11

abbrev pub AreBounded : List Candidate → Type 0
AreBounded xs = (x : Candidate) → Contains xs x → IsBounded x.offer

-- an offer above a wire of a resistance, with a load more
abbrev pub carried_offer : ℕ → ℕ → Offer → Offer
carried_offer r load x = record { cost = x.cost; q = x.q -ℤ pos (r * x.c); c = x.c + load }

abbrev pub carried_by : ℕ → ℕ → Candidate → Candidate
carried_by r load x = record { offer = carried_offer r load x.offer; sol = x.sol }
