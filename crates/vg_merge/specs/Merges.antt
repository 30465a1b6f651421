-- Two branches of a net meet: what their candidates make together (van Ginneken 1990).
use Rattle.std.specs.Prelude.{◌≡◌, ◌⊎◌, ◌+◌, ◌-◌, ◌≤◌, List, [], ◌++◌, length}
use Rattle.std.specs.List.{All, AllPairs, Contains}
use Rattle.elmore.specs.Pairs.{IsBelow, IsUndominated}
use Rattle.sol_arena.specs.declared.slot.Made.{Made}
use Rattle.sol_arena.specs.declared.slot.Slot.{Slot}
use Rattle.sol_arena.specs.Slots.{made_in}
use Rattle.sol_arena.specs.Meanings.{joined, AreApart, cells_of}
use Rattle.cand_pairs.specs.Merging.{meet, Meets}
use Rattle.cand_pool.specs.Candidates.{Candidate, Candidates, AreModest}
use Rattle.cand_uses.specs.Pairs.{pair_of, pairs_of}
use Rattle.cand_uses.specs.Uses.{HoldsFor}

-- The candidates of two branches, as a merge needs them: q and c rise strictly, numbers are within the limits of a
-- pool, callers hold their solutions, and those of the one branch share no node with those of the other.
pub record CanMeet (slots : List Slot) (xs ys : Candidates) : Type 0 where
  pub xs_rise : AllPairs IsBelow (pairs_of xs)
  pub ys_rise : AllPairs IsBelow (pairs_of ys)
  pub xs_modest : AreModest xs
  pub ys_modest : AreModest ys
  pub held : HoldsFor slots (xs ++ ys)
  pub apart : (x y : Candidate) → Contains xs x → Contains ys y
      → AreApart (cells_of (made_in slots) x.tag) (cells_of (made_in slots) y.tag)

-- z is x and y together: the lesser q, the sum of c, and the cells of both solutions
pub record IsMeetOf (old new : List Made) (x y z : Candidate) : Type 0 where
  pub pair : pair_of z ≡ meet (pair_of x) (pair_of y)
  pub cells : cells_of new z.tag ≡ joined (cells_of old x.tag) (cells_of old y.tag)

-- z is a candidate of each branch together
abbrev pub IsMet : List Made → List Made → Candidates → Candidates → Candidate → Type 0
IsMet old new xs ys z = (x : Candidate) × (y : Candidate) × Contains xs x × Contains ys y × IsMeetOf old new x y z

-- The candidates zs are what two branches make together: of all pairs of both those that no other one dominates, each
-- with the cells of the two candidates that it is made of.
pub record IsMergeOf (old new : List Made) (xs ys zs : Candidates) : Type 0 where
  pub pairs : IsUndominated (Meets (pairs_of xs) (pairs_of ys)) (pairs_of zs)
  pub solutions : All (IsMet old new xs ys) zs
  pub empty : (xs ≡ []) ⊎ (ys ≡ []) → zs ≡ []
  pub few : length zs ≤ length xs + length ys - 1
