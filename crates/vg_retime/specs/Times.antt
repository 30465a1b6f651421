-- What is left at the sinks that the signals of a walk come to.
use Rattle.std.specs.Prelude.{◌≡◌, ℕ, ◌^◌, List, [], ◌++◌, map, length, ℤ, pos, ◌-ℤ◌, ◌≤ℤ◌, Option, Some, None}
use Rattle.std.specs.List.{All, Contains, filter_map, flat_map}
use Rattle.elmore.specs.Path.{nodes as node_numbers}
use Rattle.cut_laws.specs.Walks.{End, sink, Signal, TimedNet, end_at, late_at}

-- when a signal comes to each node of a net
abbrev pub lates_in : TimedNet → Signal → List ℕ
lates_in net s = map (late_at net s) (node_numbers (length net.tree))

-- what a sink has left of its required time when the signal comes at this time, counted from the first driver
abbrev pub left_by : End → ℕ → Option ℤ
left_by (sink goal) late = Some (goal.required -ℤ pos late)
left_by _ late = None

-- what the sinks of a net have left, in tree order
abbrev pub lefts_in : TimedNet → Signal → List ℤ
lefts_in net s = filter_map (λ w. left_by (end_at net w) (late_at net s w)) (node_numbers (length net.tree))

-- what all sinks have left to which some signals come
abbrev pub lefts_of : (ℕ → TimedNet) → List Signal → List ℤ
lefts_of nets signals = flat_map (λ s. lefts_in (nets s.net) s) signals

-- the least of some times, if there is one
abbrev pub IsLeastOf : List ℤ → Option ℤ → Type 0
IsLeastOf times None = times ≡ []
IsLeastOf times (Some x) = Contains times x × All (λ y. x ≤ℤ y) times

-- the least of these times and of those before, whatever they were
abbrev pub IsLeastWith : List ℤ → Option ℤ → Option ℤ → Type 0
IsLeastWith times before least = (old : List ℤ) → IsLeastOf old before → IsLeastOf (old ++ times) least

-- a time that can be computed
pub record IsTime (x : ℤ) : Type 0 where
  pub low : (pos 0 -ℤ pos (2 ^ 120)) ≤ℤ x
  pub high : x ≤ℤ pos (2 ^ 120)
