-- What lists of candidates hold of an arena: the tag of each candidate is a solution, of which the list holds one use.
use Rattle.std.specs.Prelude.{◌≡◌, ◌≢◌, ℕ, ◌+◌, ◌≤◌, ◌==◌, List}
use Rattle.std.specs.List.{Contains, sum_by}
use Rattle.sol_arena.specs.declared.slot.Made.{Made}
use Rattle.sol_arena.specs.declared.slot.Slot.{Slot}
use Rattle.sol_arena.specs.Slots.{none, made_in}
use Rattle.sol_arena.specs.Uses.{one_if, held_of}
use Rattle.sol_arena.specs.Meanings.{cells_of}
use Rattle.sol_arena.specs.Reach.{IsFrame}
use Rattle.cand_pool.specs.Candidates.{Candidate, Candidates}

-- how many of these candidates have this solution
abbrev pub uses_by : Candidates → ℕ → ℕ
uses_by xs s = sum_by (λ x. one_if (x.tag == s)) xs

-- callers hold one use for each of these candidates, and perhaps more
abbrev pub HoldsFor : List Slot → Candidates → Type 0
HoldsFor slots xs = (s : ℕ) → s ≢ none → uses_by xs s ≤ held_of slots s

-- callers hold one use for each of these candidates, and those others
abbrev pub HoldsBeside : List Slot → Candidates → (ℕ → ℕ) → Type 0
HoldsBeside slots xs others = (s : ℕ) → s ≢ none → held_of slots s ≡ uses_by xs s + others s

-- the uses of the candidates xs were given up for those of the candidates zs; whatever others callers hold stay, and
-- what they reach keeps its meaning and what it was made of
pub record IsExchange (old : List Slot) (xs : Candidates) (new : List Slot) (zs : Candidates) : Type 0 where
  pub held : (others : ℕ → ℕ) → HoldsBeside old xs others → HoldsBeside new zs others
  pub frame : (others : ℕ → ℕ) → HoldsBeside old xs others → IsFrame others (made_in old) (made_in new)

-- the solution of each of these candidates has the cells that it had
abbrev pub MeanTheSame : List Made → List Made → Candidates → Type 0
MeanTheSame old new xs = (x : Candidate) → Contains xs x → cells_of new x.tag ≡ cells_of old x.tag
