-- What solutions mean: which repeater, if any, stands at each node. A meaning is a function of the node.
use Rattle.std.specs.Prelude.{◌≡◌, ℕ, zero, suc, ◌<◌, ◌==◌, List, length, Option, Some, None, if◌then◌else◌}
use Rattle.sol_arena.specs.declared.slot.Made.{Made}
use Rattle.sol_arena.specs.declared.slot.Made.TheVariants.{Free, Owed, Cell, Join}
use Rattle.sol_arena.specs.Slots.{made_at}

-- no cell at any node
abbrev pub bare : ℕ → Option ℕ
bare v = None

-- the first, or where it is none the second
abbrev pub either_of : Option ℕ → Option ℕ → Option ℕ
either_of None y = y
either_of (Some x) y = Some x

-- the cells of both
abbrev pub joined : (ℕ → Option ℕ) → (ℕ → Option ℕ) → ℕ → Option ℕ
joined f g v = either_of (f v) (g v)

-- this at the node u, and else the cells of f
abbrev pub with_own : ℕ → Option ℕ → (ℕ → Option ℕ) → ℕ → Option ℕ
with_own u own f v = if v == u then own else f v

-- no node has a cell in both
abbrev pub AreApart : (ℕ → Option ℕ) → (ℕ → Option ℕ) → Type 0
AreApart f g = (v x y : ℕ) → f v ≡ Some x → g v ≡ Some y → ⊥

-- the nodes that have cells are below n
abbrev pub AreBelow : ℕ → (ℕ → Option ℕ) → Type 0
AreBelow n f = (v x : ℕ) → f v ≡ Some x → v < n

-- the cells of what is made so, by the cells of what it is made of
abbrev pub cells_by : Made → (ℕ → ℕ → Option ℕ) → ℕ → Option ℕ
cells_by (Free next) cells = bare
cells_by (Owed to next) cells = bare
cells_by (Cell node rep below) cells = with_own node (Some rep) (cells below)
cells_by (Join a b) cells = joined (cells a) (cells b)

-- the cells of s that are found in so many steps down
abbrev pub cells_within : ℕ → List Made → ℕ → ℕ → Option ℕ
cells_within zero ms s = bare
cells_within (suc n) ms s = cells_by (made_at ms s) (cells_within n ms)

-- the meaning of s: no solution has more steps below it than there are slots
unfoldable pub cells_of : List Made → ℕ → ℕ → Option ℕ
cells_of ms s = cells_within (length ms) ms s
