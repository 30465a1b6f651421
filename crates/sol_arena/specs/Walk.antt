-- A walk over the solutions that one was made of, which finds its cells.
use Rattle.std.specs.Prelude.{◌≡◌, ℕ, zero, suc, ◌+◌, ◌<◌, List, [], ◌∷◌, length, Option, None, slice_index_or}
use Rattle.std.specs.List.{Contains, sum_by}
use Rattle.sol_arena.specs.declared.slot.Made.{Made}
use Rattle.sol_arena.specs.declared.slot.Made.TheVariants.{Free, Owed, Cell, Join}
use Rattle.sol_arena.specs.Slots.{made_at, IsLive}
use Rattle.sol_arena.specs.Meanings.{bare, either_of, joined, cells_of}

-- how many visits what is made so takes, by those of what it is made of
abbrev pub size_by : Made → (ℕ → ℕ) → ℕ
size_by (Free next) size = 1
size_by (Owed to next) size = 1
size_by (Cell node rep below) size = 1 + size below
size_by (Join a b) size = 1 + (size a + size b)

abbrev pub size_within : ℕ → List Made → ℕ → ℕ
size_within zero ms s = 1
size_within (suc n) ms s = size_by (made_at ms s) (size_within n ms)

-- how many visits the solution s takes
unfoldable pub size_of : List Made → ℕ → ℕ
size_of ms s = size_within (length ms) ms s

-- the cells of the solutions that are left, the last of which is next, and then `rest`
abbrev pub cells_left : List Made → List ℕ → (ℕ → Option ℕ) → ℕ → Option ℕ
cells_left ms [] rest = rest
cells_left ms (s ∷ left) rest = cells_left ms left (joined (cells_of ms s) rest)

-- how many visits are left
abbrev pub turns_left : List Made → List ℕ → ℕ
turns_left ms left = sum_by (size_of ms) left

-- the cell that was found at v, or else the one that is left
abbrev pub cell_so_far : List Made → List (Option ℕ) → List ℕ → ℕ → Option ℕ
cell_so_far ms cells left v = either_of (slice_index_or cells v None) (cells_left ms left bare v)

-- all that are left are live
abbrev pub AreLive : List Made → List ℕ → Type 0
AreLive ms left = (t : ℕ) → Contains left t → IsLive ms t

-- a visit finds some of the cells that are left, and leaves less
pub record IsVisit (ms : List Made) (cells : List (Option ℕ)) (left : List ℕ) (cells' : List (Option ℕ))
    (left' : List ℕ) : Type 0 where
  pub room : length cells' ≡ length cells
  pub live : AreLive ms left'
  pub same : (v : ℕ) → cell_so_far ms cells' left' v ≡ cell_so_far ms cells left v
  pub less : turns_left ms left' < turns_left ms left
