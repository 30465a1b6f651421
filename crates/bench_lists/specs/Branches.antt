-- Branches that can be merged: lists without cells.
use Rattle.std.specs.Prelude.{◌≡◌, List, [], ◌∷◌}
use Rattle.std.specs.List.{AllPairs}
use Rattle.elmore.specs.Pairs.{IsBelow}
use Rattle.sol_arena.specs.Slots.{none}
use Rattle.cand_pool.specs.Candidates.{Candidate}
use Rattle.cand_pool.specs.Pools.{Block, items_of}
use Rattle.cand_pool.specs.declared.ends.List.{List as NamedList}
use Rattle.cand_uses.specs.Pairs.{pairs_of}
use Rattle.bench_lists.specs.Turns.{IsMade}

-- these candidates have the empty solution
abbrev pub AreBare : List Candidate → Type 0
AreBare [] = Unit {0}
AreBare (x ∷ xs) = (x.tag ≡ none) × AreBare xs

-- a live list of small candidates without cells, which rise strictly
pub record IsReady (s : Block) (list : NamedList) : Type 0 where
  pub made : IsMade s list
  pub rises : AllPairs IsBelow (pairs_of (items_of s list))
  pub bare : AreBare (items_of s list)
