-- Which repeaters may stand at a node.
use Rattle.std.specs.Prelude.{◌≡◌, ℕ, ◌<◌, List, length, slice_index_or, replicate, ⊤}
use Rattle.std.specs.List.{Contains, AllPairs}
use Rattle.elmore.specs.declared.allowed.Allowed.{Allowed}
use Rattle.elmore.specs.declared.allowed.Allowed.TheVariants.{All, Only}

-- what a node allows; past the end of the list a number allows all
abbrev pub allowed_at : List Allowed → ℕ → Allowed
allowed_at allowed v = slice_index_or allowed v All

-- the repeater b is allowed
abbrev pub Allows : Allowed → ℕ → Type 0
Allows All b = ⊤
Allows (Only numbers) b = Contains numbers b

-- each of n nodes allows all
abbrev pub all_allowed : ℕ → List Allowed
all_allowed n = replicate n All

-- for each of n nodes what it allows: all repeaters, or some, by the rising numbers of `reps` repeaters
pub record AreAllowances (n reps : ℕ) (allowed : List Allowed) : Type 0 where
  pub one_each : length allowed ≡ n
  pub rising : (v : ℕ) (numbers : List ℕ) → allowed_at allowed v ≡ Only numbers → AllPairs (λ a b. a < b) numbers
  pub named : (v : ℕ) (numbers : List ℕ) → allowed_at allowed v ≡ Only numbers → (b : ℕ) → Contains numbers b → b < reps
