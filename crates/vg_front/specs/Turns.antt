-- Turns in which the runs of two lists meet.
use Rattle.std.specs.Prelude.{◌≡◌, ◌⊎◌, ℕ, ◌+◌, ◌-◌, ◌<◌, ◌≤◌, List, length, slice_index_or, Option}
use Rattle.std.specs.List.{Contains, sum_by}
use Rattle.std.specs.declared.cmp.Reverse.{Reverse}
use Rattle.elmore.specs.Legal.{IsWithin}
use Rattle.vg_front.specs.declared.runs.Run.{Run}
use Rattle.vg_front.specs.declared.turns.Turn.{Turn}

-- a run meets number k of the others within the cap
abbrev pub MayMeet : Option ℕ → Run → List Run → ℕ → Type 0
MayMeet cap a seconds k = (k < length seconds) × ((d : Run) → IsWithin cap (a.cost + (slice_index_or seconds k d).cost))

-- it is to meet this one, or one before it
abbrev pub Waits : List (Reverse Turn) → Run → ℕ → Type 0
Waits turns a k = (t : Reverse Turn) × Contains turns t × (t.0.first ≡ a) × (t.0.second ≤ k)

-- how many runs it may meet in this turn and later
abbrev pub left_in : List Run → Reverse Turn → ℕ
left_in seconds t = length seconds - t.0.second

-- the turn of a run was put, with the first of the others from number `from` on that it meets
pub record IsPut (cap : Option ℕ) (first : Run) (seconds : List Run) (from : ℕ)
    (old new : List (Reverse Turn)) : Type 0 where
  pub each : (t : Reverse Turn) → Contains new t
      → Contains old t ⊎ ((t.0.first ≡ first) × MayMeet cap first seconds t.0.second)
  pub kept : (t : Reverse Turn) → Contains old t → Contains new t
  pub whole : (k : ℕ) → from ≤ k → MayMeet cap first seconds k → Waits new first k
  pub left : sum_by (left_in seconds) new ≤ sum_by (left_in seconds) old + (length seconds - from)

-- the first turns of runs with others
pub record AreTurns (cap : Option ℕ) (firsts seconds : List Run) (turns : List (Reverse Turn)) : Type 0 where
  pub each : (t : Reverse Turn) → Contains turns t
      → Contains firsts t.0.first × MayMeet cap t.0.first seconds t.0.second
  pub whole : (a : Run) (k : ℕ) → Contains firsts a → MayMeet cap a seconds k → Waits turns a k
