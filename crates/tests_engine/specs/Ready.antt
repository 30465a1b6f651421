-- Lists of candidates without cells, as a merge takes them.
use Rattle.std.specs.Prelude.{◌≡◌, ℕ, ◌+◌, ◌≤◌, List, [], ◌∷◌, pos, ◌≤ℤ◌}
use Rattle.std.specs.List.{AllPairs}
use Rattle.elmore.specs.Pairs.{IsBelow}
use Rattle.elmore.specs.declared.pair.Pair.{Pair}
use Rattle.sol_arena.specs.Slots.{none}
use Rattle.cand_pool.specs.Candidates.{Candidate, Candidates, AreModest}
use Rattle.cand_pool.specs.Pools.{Block, items_of, spare, Holds, IsLive, KeepsOthers, name}
use Rattle.cand_pool.specs.declared.ends.List.{List as NamedList}
use Rattle.cand_uses.specs.Pairs.{pairs_of}

-- these candidates have the empty solution
abbrev pub AreBare : List Candidate → Type 0
AreBare [] = Unit {0}
AreBare (x ∷ xs) = (x.tag ≡ none) × AreBare xs

-- a live list that rises strictly, within the limits of a pool, without cells
pub record IsReady (s : Block) (list : NamedList) : Type 0 where
  pub live : IsLive s list
  pub modest : AreModest (items_of s list)
  pub rises : AllPairs IsBelow (pairs_of (items_of s list))
  pub bare : AreBare (items_of s list)

-- each pair is below this one
abbrev pub AreUnder : Pair → List Pair → Type 0
AreUnder top [] = Unit {0}
AreUnder top (x ∷ xs) = IsBelow x top × AreUnder top xs

-- a list is made of some of n pairs, all below the floor
pub record IsListed (s t : Block) (list : NamedList) (floor : Pair) (n : ℕ) : Type 0 where
  pub xs : Candidates
  pub held : Holds t list xs
  pub modest : AreModest xs
  pub rises : AllPairs IsBelow (pairs_of xs)
  pub under : AreUnder floor (pairs_of xs)
  pub bare : AreBare xs
  pub low : pos 0 ≤ℤ floor.q
  pub others : KeepsOthers s [] t (name list ∷ [])
  pub room : spare s ≤ spare t + n
