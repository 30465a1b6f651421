-- The lists of a merge, and what one turn of it does.
use Rattle.std.specs.Prelude.{◌≡◌, ℕ, cond, List, [], ◌∷◌, ◌++◌, int_lt}
use Rattle.sol_arena.specs.declared.slot.Slot.{Slot}
use Rattle.sol_arena.specs.Slots.{made_in}
use Rattle.sol_arena.specs.Meanings.{joined, cells_of}
use Rattle.cand_pool.specs.Candidates.{Candidate, Candidates, formed}
use Rattle.cand_pool.specs.Pools.{Block, Holds, items_of, Differ, name}
use Rattle.cand_uses.specs.Uses.{IsExchange}
use Rattle.vg_merge.specs.declared.branches.Branches.{Branches}

-- the lists are live and differ, and are these sequences
pub record AreAt (s : Block) (at : Branches) (zs xs ys : Candidates) : Type 0 where
  pub list : Holds s at.list zs
  pub a : Holds s at.a xs
  pub b : Holds s at.b ys
  pub a_list : Differ (name at.a) (name at.list)
  pub a_b : Differ (name at.a) (name at.b)
  pub list_b : Differ (name at.list) (name at.b)

abbrev pub AreLive : Block → Branches → Type 0
AreLive s at = AreAt s at (items_of s at.list) (items_of s at.a) (items_of s at.b)

abbrev pub names : Branches → List ℕ
names at = name at.list ∷ name at.a ∷ name at.b ∷ []

-- the candidates of all three lists
abbrev pub all_of : Block → Branches → Candidates
all_of s at = items_of s at.list ++ (items_of s at.a ++ items_of s at.b)

-- the first of these candidates has this solution
abbrev pub IsFirst : List Candidate → ℕ → Type 0
IsFirst [] sol = ⊥
IsFirst (x ∷ xs) sol = x.tag ≡ sol

-- what is taken off the list of x where it meets y
abbrev pub taken_from : Candidate → Candidate → Candidates
taken_from x y = cond (int_lt y.q x.q) [] (x ∷ [])

-- x and y were joined with the solution `sol`: it has the cells of both, and the uses of what was taken off the
-- branches were given up for one of it
pub record IsJoined (old new : List Slot) (x y : Candidate) (sol : ℕ) : Type 0 where
  pub cells : cells_of (made_in new) sol ≡ joined (cells_of (made_in old) x.tag) (cells_of (made_in old) y.tag)
  pub uses : IsExchange old (taken_from x y ++ taken_from y x) new (formed x y sol ∷ [])
