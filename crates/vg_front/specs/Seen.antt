-- What stairs tell of the candidates that were seen.
use Rattle.std.specs.Prelude.{◌≡◌, ◌⊎◌, ℕ, ◌≤◌, List, ◌++◌, ◌≤ℤ◌}
use Rattle.std.specs.List.{Contains}
use Rattle.cand_pairs.specs.Priced.{Priced}
use Rattle.vg_front.specs.declared.offer.Offer.{Offer}
use Rattle.vg_front.specs.declared.stairs.Stair.{Stair}
use Rattle.vg_front.specs.declared.stairs.Stairs.{Stairs}
use Rattle.vg_front.specs.Offers.{IsBeaten}

-- all stairs
abbrev pub stairs_of : Stairs → List Stair
stairs_of s = s.passed.items ++ s.ahead.items

-- the stair of an offer
abbrev pub stair_of : Offer → Stair
stair_of x = record { q = x.q; c = x.c }

-- the time and the load of a stair, at some cost
abbrev pub on_stair : ℕ → Stair → Priced
on_stair cost x = record { cost = cost; pair = record { q = x.q; c = x.c } }

-- one of these candidates reaches each of the stairs at no more than this cost
abbrev pub AreReachedAt : ℕ → List Stair → List Priced → Type 0
AreReachedAt cost stairs zs = (x : Stair) → Contains stairs x → IsBeaten zs (on_stair cost x)

abbrev pub AreReached : Stairs → List Priced → Type 0
AreReached s zs = AreReachedAt s.cost (stairs_of s) zs

-- each of these stairs was there, or is this one
abbrev pub AreOf : List Stair → Stair → List Stair → Type 0
AreOf old y new = (x : Stair) → Contains new x → Contains old x ⊎ (x ≡ y)

-- each of these stairs was there, at the same cost
pub record AreSomeOf (old new : Stairs) : Type 0 where
  pub among : (x : Stair) → Contains (stairs_of new) x → Contains (stairs_of old) x
  pub cost : new.cost ≡ old.cost

-- some stairs of two lists stand in two others
abbrev pub IsMoved : List Stair → List Stair → List Stair → List Stair → Type 0
IsMoved from to from' to' = (x : Stair) → Contains from' x ⊎ Contains to' x → Contains from x ⊎ Contains to x

-- a stair of no more load has no less time than this offer
abbrev pub IsRefused : List Stair → Offer → Type 0
IsRefused stairs offer = (x : Stair) × Contains stairs x × (x.c ≤ offer.c) × (offer.q ≤ℤ x.q)
