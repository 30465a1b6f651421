-- The lists that a search holds, and lists that are given for others.
use Rattle.std.specs.Prelude.{◌≢◌, ℕ, ◌+◌, ◌≤◌, ◌==◌, List, ◌∷◌, [], ◌++◌, length, map}
use Rattle.std.specs.List.{All, sum_by}
use Rattle.std.specs.List.Sorted.{IsPermutation}
use Rattle.sol_arena.specs.declared.arena.Arena.{Arena}
use Rattle.sol_arena.specs.declared.slot.Slot.{Slot}
use Rattle.sol_arena.specs.Arenas.{slots_of}
use Rattle.sol_arena.specs.Uses.{one_if}
use Rattle.cand_pool.specs.Links.{none}
use Rattle.cand_pool.specs.Candidates.{Candidates}
use Rattle.cand_pool.specs.Pools.{Block, spare, items_of, name, IsLive, KeepsOthers}
use Rattle.cand_pool.specs.declared.ends.List.{List as NamedList}
use Rattle.cand_uses.specs.Uses.{IsExchange, HoldsFor}

-- the pool and the arena that a search works on
pub record Search : Type 0 where
  pub pool : Block
  pub slots : List Slot

abbrev pub search : Block → Arena → Search
search pool arena = record { pool = pool; slots = slots_of arena }

-- the same, by the slots of the arena
abbrev pub Slots : Type 0
Slots = List Slot

abbrev pub at_slots : Block → Slots → Search
at_slots pool slots = record { pool = pool; slots = slots }

abbrev pub Lists : Type 0
Lists = List NamedList

abbrev pub names : Lists → List ℕ
names lists = map name lists

-- how many of these lists have this name
abbrev pub named : ℕ → Lists → ℕ
named k lists = sum_by (λ list. one_if (name list == k)) lists

-- the candidates of all these lists
abbrev pub all_of : Block → Lists → Candidates
all_of s [] = []
all_of s (list ∷ lists) = items_of s list ++ all_of s lists

-- all are live, no two have one name but for empty ones, and callers hold a use of the solution of each of their
-- candidates
pub record AreHeld (at : Search) (lists : Lists) : Type 0 where
  pub live : All (IsLive at.pool) lists
  pub apart : (k : ℕ) → k ≢ none → named k lists ≤ 1
  pub uses : HoldsFor at.slots (all_of at.pool lists)

-- lists were given for others: the uses of their solutions for those of the others, no slot is lost, and each other
-- list and use that callers hold stays
pub record IsSwap (old : Search) (given : Lists) (new : Search) (made : Lists) : Type 0 where
  pub uses : IsExchange old.slots (all_of old.pool given) new.slots (all_of new.pool made)
  pub others : KeepsOthers old.pool (names given) new.pool (names made)
  pub spare : spare old.pool + length (all_of old.pool given) ≤ spare new.pool + length (all_of new.pool made)

-- and those that were made are held
pub record IsTurn (old : Search) (given : Lists) (new : Search) (made : Lists) : Type 0 where
  pub held : AreHeld new made
  pub swap : IsSwap old given new made

-- these are some of the lists, and those the others, in any order
abbrev pub AreOf : Lists → Lists → Lists → Type 0
AreOf some others lists = IsPermutation (some ++ others) lists
