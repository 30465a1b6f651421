-- What repeaters are added to, and what they make.
use Rattle.std.specs.Prelude.{◌≤◌, List, length}
use Rattle.sol_arena.specs.declared.slot.Slot.{Slot}
use Rattle.cand_pool.specs.Pools.{Block, items_of, IsLive, Differ, name}
use Rattle.cand_pool.specs.declared.ends.List.{List as NamedList}
use Rattle.cand_uses.specs.Uses.{HoldsFor}
use Rattle.vg_convex.specs.Orders.{IsShelf}
use Rattle.bench_lists.specs.Branches.{IsReady}
use Rattle.bench_lists.specs.declared.cells.Library.{Library}

-- repeaters that stand on their shelf, at most 256 of them
pub record IsLibrary (library : Library) : Type 0 where
  pub shelf : IsShelf library.reps.items library.shelf
  pub few : length library.reps.items ≤ 256

-- a list without cells, and another list beside it, the uses of which callers hold
pub record IsAdded (s : Block) (slots : List Slot) (list made : NamedList) : Type 0 where
  pub ready : IsReady s list
  pub live : IsLive s made
  pub held : HoldsFor slots (items_of s made)
  pub differ : Differ (name list) (name made)
