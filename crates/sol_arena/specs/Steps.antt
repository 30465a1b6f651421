-- What the functions between do with the slots.
use Rattle.std.specs.Prelude.{◌≡◌, ◌≢◌, ℕ, ◌+◌, ◌*◌, ◌^◌, ◌<◌, ◌≤◌, ◌==◌, List, [], ◌∷◌, ◌++◌, ◌⊎◌, length, slice_set}
use Rattle.std.specs.List.{Contains}
use Rattle.sol_arena.specs.declared.slot.Made.{Made}
use Rattle.sol_arena.specs.declared.slot.Made.TheVariants.{Free, Owed}
use Rattle.sol_arena.specs.declared.slot.Slot.{Slot}
use Rattle.sol_arena.specs.Slots.{none, made_in, made_at, IsSolution}
use Rattle.sol_arena.specs.Uses.{one_if, uses_of, uses_in, inner_uses, live_count}
use Rattle.sol_arena.specs.Invariant.{owed_count, IsOrderOf, IsKept}

-- a new slot at the end, or the first free one, has this now; `next` is the first free one that is left
pub record IsPlaced (old : List Slot) (free : ℕ) (new : List Slot) (next : ℕ) (s : ℕ) (slot : Slot) : Type 0 where
  pub slots :
      ((free ≡ none) × (s ≡ length old) × (new ≡ old ++ slot ∷ []) × (next ≡ none))
      ⊎ ((free ≡ s) × (made_at (made_in old) s ≡ Free next) × (new ≡ slice_set old s slot))
  pub room : length new ≤ 2 ^ 61
  pub apart : s ≢ none

-- each solution has the uses more that what is made so has of it, and all else is as before
pub record GivesUses (old new : List Slot) (made_so : Made) : Type 0 where
  pub same : made_in new ≡ made_in old
  pub uses : (t : ℕ) → t ≢ none → uses_of new t ≡ uses_of old t + uses_in made_so t

-- the slots in this order have yet to give up a use each, and each leads to the next
abbrev pub IsChain : List Made → ℕ → List ℕ → Type 0
IsChain ms first [] = first ≡ none
IsChain ms first (x ∷ rest) =
    (first ≡ x) × (x < length ms) × (Contains rest x → ⊥)
    × ((to : ℕ) × (next : ℕ) × (made_at ms x ≡ Owed to next) × IsChain ms next rest)

-- Uses are being given up: one of `sol` is next, and then the slots of the chain that begins at `first` owe one each.
pub record IsGiving (slots : List Slot) (free first sol : ℕ) : Type 0 where
  pub kept : IsKept slots free sol
  pub acyclic : ∥ ((order : List ℕ) × IsOrderOf (made_in slots) order) ∥₁
  pub chain : List ℕ
  pub linked : IsChain (made_in slots) first chain
  pub whole : owed_count (made_in slots) ≡ length chain

-- The uses that callers hold are the same, where one of `sol` was to be given up and one of `next` is now; what stays
-- was made as before.
pub record IsTurn (old new : List Slot) (sol next : ℕ) : Type 0 where
  pub held : (t : ℕ) → t ≢ none
      → uses_of new t + inner_uses (made_in old) t + one_if (sol == t)
      ≡ uses_of old t + inner_uses (made_in new) t + one_if (next == t)
  pub same : (t : ℕ) → IsSolution (made_in new) t → made_at (made_in new) t ≡ made_at (made_in old) t
  pub lengths : length new ≡ length old

-- how much can still be given up: a join is freed in two turns
abbrev pub weight : List Slot → ℕ
weight slots = 2 * live_count (made_in slots) + owed_count (made_in slots)

-- a turn after which a use of `next` is to be given up, and less can be
pub record IsTurnOn (old new : List Slot) (free first sol next : ℕ) : Type 0 where
  pub giving : IsGiving new free first next
  pub turn : IsTurn old new sol next
  pub less : weight new < weight old

-- a turn after which no use is to be given up
pub record IsLastTurn (old new : List Slot) (free first sol : ℕ) : Type 0 where
  pub giving : IsGiving new free first none
  pub turn : IsTurn old new sol none
  pub done : first ≡ none
