-- The list of what repeaters make of two lists of candidates, one for each kind, and the solutions of its candidates.
use Rattle.std.specs.Prelude.{◌≡◌, ◌≢◌, ℕ, ◌+◌, ◌<◌, Bool, List, [], ◌∷◌, length, Some, None}
use Rattle.std.specs.List.{All, Contains, AllZip}
use Rattle.elmore.specs.Allowances.{Allows}
use Rattle.elmore.specs.Cells.{rep_at}
use Rattle.elmore.specs.declared.allowed.Allowed.{Allowed}
use Rattle.elmore.specs.declared.pair.Pair.{Pair}
use Rattle.elmore.specs.declared.rep.Rep.{Rep}
use Rattle.sol_arena.specs.declared.slot.Made.{Made}
use Rattle.sol_arena.specs.declared.slot.Made.TheVariants.{Cell}
use Rattle.sol_arena.specs.declared.slot.Slot.{Slot}
use Rattle.sol_arena.specs.Slots.{none, made_in, made_at, IsSolution, IsLive as IsLiveSolution}
use Rattle.sol_arena.specs.Uses.{held_of}
use Rattle.sol_arena.specs.Meanings.{with_own, cells_of}
use Rattle.cand_pairs.specs.Merging.{IsGreatestBy}
use Rattle.cand_pool.specs.Candidates.{Candidate, Candidates}
use Rattle.cand_pool.specs.Pools.{Block, spare, Holds, KeepsOthers, name}
use Rattle.cand_pool.specs.declared.ends.List.{List as NamedList}
use Rattle.cand_uses.specs.Pairs.{pair_of, pairs_of}
use Rattle.cand_uses.specs.Uses.{uses_by}
use Rattle.vg_convex.specs.Answers.{IsMadeOf}
use Rattle.vg_convex.specs.declared.work.Made.{Made as Result}

-- b is a repeater, and a node allows it
abbrev pub MayStand : List Rep → Allowed → ℕ → Type 0
MayStand reps allowed b = (b < length reps) × Allows allowed b

-- the list that the repeater b drives: there is one for the buffers and one for the inverters
abbrev pub driven : List Rep → (Bool → Candidates) → ℕ → Candidates
driven reps lists b = lists (rep_at reps b).inverts

-- a repeater that may stand makes z of the list that it drives, and no pair with more time
abbrev pub IsMade : List Rep → Allowed → (Bool → Candidates) → Pair → Type 0
IsMade reps allowed lists z =
    (b : ℕ) × MayStand reps allowed b × IsGreatestBy (rep_at reps b) (pairs_of (driven reps lists b)) z

-- the solutions of these candidates are live, and have no cell at a node
pub record AreBareAt (ms : List Made) (node : ℕ) (xs : Candidates) : Type 0 where
  pub live : All (λ x. IsLiveSolution ms x.tag) xs
  pub bare : All (λ x. cells_of ms x.tag node ≡ None) xs

-- the new solution s is the solution `below` with a cell more: the repeater b at a node
pub record IsCell (old new : List Made) (node b below s : ℕ) : Type 0 where
  pub made : made_at new s ≡ Cell node b below
  pub means : cells_of new s ≡ with_own node (Some b) (cells_of old below)

-- the repeater b makes z of candidate x of the list that it drives
pub record IsAttained (reps : List Rep) (b : ℕ) (lists : Bool → Candidates) (x z : Candidate) : Type 0 where
  pub among : Contains (driven reps lists b) x
  pub made : IsMadeOf (rep_at reps b) x (pair_of z)

-- each solution that was live keeps its meaning and what it was made of
pub record KeepsSolutions (old new : List Made) : Type 0 where
  pub made : (s : ℕ) → IsSolution old s → made_at new s ≡ made_at old s
  pub cells : (s : ℕ) → IsSolution old s → cells_of new s ≡ cells_of old s

-- a list has these candidates more, each with a use of its solution, and nothing else is changed
pub record AreAdded (s t : Block) (old new : List Slot) (list : NamedList) (zs : Candidates) : Type 0 where
  pub held : Holds t list zs
  pub others : KeepsOthers s [] t (name list ∷ [])
  pub room : spare s ≡ spare t + length zs
  pub uses : (u : ℕ) → u ≢ none → held_of new u ≡ held_of old u + uses_by zs u
  pub solutions : KeepsSolutions (made_in old) (made_in new)

-- candidate z is a result, with its cell
pub record IsWithCell (old new : List Made) (node : ℕ) (result : Result) (z : Candidate) : Type 0 where
  pub pair : pair_of z ≡ result.pair
  pub cell : IsCell old new node result.rep result.tag z.tag

-- these candidates are those results, in order
abbrev pub AreWithCells : List Made → List Made → ℕ → List Result → Candidates → Type 0
AreWithCells old new node results zs = AllZip (IsWithCell old new node) results zs
