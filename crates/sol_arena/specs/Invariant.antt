-- What the type of an arena keeps of its slots.
use Rattle.std.specs.Prelude.{◌≡◌, ◌≢◌, ℕ, ◌+◌, ◌^◌, ◌<◌, ◌≤◌, Bool, true, false, ◌==◌, List, [], ◌∷◌, length, ⊤}
use Rattle.std.specs.List.{Contains, sum_by}
use Rattle.sol_arena.specs.declared.slot.Made.{Made}
use Rattle.sol_arena.specs.declared.slot.Made.TheVariants.{Free, Owed, Cell, Join}
use Rattle.sol_arena.specs.declared.slot.Slot.{Slot}
use Rattle.sol_arena.specs.Slots.{none, made_in, made_at, is_solution, IsSolution}
use Rattle.sol_arena.specs.Uses.{one_if, uses_of, uses_in, inner_uses}

abbrev pub is_free : Made → Bool
is_free (Free next) = true
is_free (Owed to next) = false
is_free (Cell node rep below) = false
is_free (Join a b) = false

abbrev pub is_owed : Made → Bool
is_owed (Free next) = false
is_owed (Owed to next) = true
is_owed (Cell node rep below) = false
is_owed (Join a b) = false

-- how often a free slot with this in it names s as the next free one
abbrev pub links : Made → ℕ → ℕ
links (Free next) s = one_if (next == s)
links (Owed to next) s = 0
links (Cell node rep below) s = 0
links (Join a b) s = 0

-- how often free slots name s as the next free one
unfoldable pub followed : List Made → ℕ → ℕ
followed ms s = sum_by (λ made. links made s) ms

-- how many slots have yet to give up a use
unfoldable pub owed_count : List Made → ℕ
owed_count ms = sum_by (λ made. one_if (is_owed made)) ms

-- each of these was made of later ones alone, and stands once
abbrev pub IsOrder : List Made → List ℕ → Type 0
IsOrder ms [] = ⊤
IsOrder ms (s ∷ rest) =
    (s < length ms) × (Contains rest s → ⊥)
    × ((x : ℕ) → x ≢ none → 0 < uses_in (made_at ms s) x → Contains rest x)
    × IsOrder ms rest

-- an order of all solutions: none was made of itself, directly or through others
pub record IsOrderOf (ms : List Made) (order : List ℕ) : Type 0 where
  pub ordered : IsOrder ms order
  pub whole : (s : ℕ) → IsSolution ms s → Contains order s

-- Uses are counted, where one of `sol` is held beside those that callers hold; and each free slot stands once in
-- the chain of free ones that begins at `free`.
pub record IsKept (slots : List Slot) (free : ℕ) (sol : ℕ) : Type 0 where
  pub room : length slots ≤ 2 ^ 61
  pub counted : (s : ℕ) → s ≢ none → inner_uses (made_in slots) s + one_if (sol == s) ≤ uses_of slots s
  pub small : (s : ℕ) → s ≢ none → uses_of slots s ≤ 2 ^ 63 + inner_uses (made_in slots) s + one_if (sol == s)
  pub used : (s : ℕ) → IsSolution (made_in slots) s → 0 < uses_of slots s
  pub unused : (s : ℕ) → is_solution (made_at (made_in slots) s) ≡ false → uses_of slots s ≡ 0
  pub chained : (s : ℕ) → s ≢ none
      → followed (made_in slots) s + one_if (free == s) ≡ one_if (is_free (made_at (made_in slots) s))

-- The slots of an arena: uses are counted, no slot has a use to give up, and solutions have an order.
pub record IsArena (slots : List Slot) (free : ℕ) : Type 0 where
  pub kept : IsKept slots free none
  pub settled : owed_count (made_in slots) ≡ 0
  pub acyclic : ∥ ((order : List ℕ) × IsOrderOf (made_in slots) order) ∥₁
