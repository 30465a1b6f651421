-- Nets that are timed one after the other, from the first driver down through the cells between them. These definitions
-- know the nets alone, and nothing of a net that they were cut from.
use Rattle.std.specs.Prelude.{◌≡◌, ◌≢◌, ◌⊎◌, ℕ, zero, suc, ◌+◌, ◌*◌, ◌≤◌, cond, List, [], ◌∷◌, ◌++◌, length, ℤ, pos, ◌+ℤ◌, ◌-ℤ◌, ◌≤ℤ◌, Option, Some, None, slice_index_or}
use Rattle.std.specs.List.{All, Contains, AllPairs, filter_map, slice_get}
use Rattle.elmore.specs.Path.{nodes as node_numbers}
use Rattle.elmore.specs.Delay.{is_odd}
use Rattle.elmore.specs.Wire.{downstream_in, delay_in}
use Rattle.elmore.specs.declared.tree.Node.{Node}
use Rattle.elmore.specs.declared.rep.Rep.{Rep}
use Rattle.elmore.specs.declared.parts.Driver.{Driver}
use Rattle.elmore.specs.declared.parts.Sink.{Sink}

-- what stands at a node of a net: nothing, a sink, or the input of a cell, with the number of the net that it drives,
-- if there is one
pub data End : Type 0 where
  nothing : End
  sink : Sink → End
  passes : Rep → Option ℕ → End

-- a net by itself: its tree, with the capacitances of its pins, what stands at each node, and, where a cell drives it,
-- the number of the net at that cell's input
pub record TimedNet : Type 0 where
  pub tree : List Node
  pub ends : List End
  pub above : Option ℕ

abbrev pub end_at : TimedNet → ℕ → End
end_at net w = slice_index_or net.ends w nothing

-- a signal at the driver of a net: the number of the net, the driver's resistance, when the driver would give it on if
-- it had no load, counted from when the first driver would, and how many inverters the signal has passed
pub record Signal : Type 0 where
  pub net : ℕ
  pub r : ℕ
  pub late : ℕ
  pub inverters : ℕ

-- when it comes to the node w: the driver charges the whole net, and then there is the wire
abbrev pub late_at : TimedNet → Signal → ℕ → ℕ
late_at net s w = s.late + (s.r * downstream_in net.tree 0 + delay_in net.tree w)

-- the signal behind the cell whose input stands at w, if it drives a net
abbrev pub passed : TimedNet → Signal → ℕ → End → Option Signal
passed net s w nothing = None
passed net s w (sink _) = None
passed net s w (passes rep None) = None
passed net s w (passes rep (Some next)) =
    Some
    (record { net = next; r = rep.r; late = late_at net s w + rep.k; inverters = s.inverters + cond rep.inverts 1 0 })

-- the signals that a net passes on, in tree order
abbrev pub passed_on : TimedNet → Signal → List Signal
passed_on net s = filter_map (λ w. passed net s w (end_at net w)) (node_numbers (length net.tree))

abbrev pub passed_on_by : (ℕ → TimedNet) → Option Signal → List Signal
passed_on_by nets None = []
passed_on_by nets (Some s) = passed_on (nets s.net) s

-- the signals that are there when k nets have passed theirs on, breadth first
unfoldable pub reached : (ℕ → TimedNet) → Signal → ℕ → List Signal
reached nets start zero = start ∷ []
reached nets start (suc k) = reached nets start k ++ passed_on_by nets (slice_get (reached nets start k) k)

-- all signals: each was passed on, and no net has two
pub record IsWalk (nets : ℕ → TimedNet) (start : Signal) (signals : List Signal) : Type 0 where
  pub k : ℕ
  pub come : signals ≡ reached nets start k
  pub ended : length signals ≤ k
  pub once : AllPairs (λ a b. a.net ≢ b.net) signals

-- where the walk begins: behind the first driver
abbrev pub start_of : ℕ → Driver → Signal
start_of first driver = record { net = first; r = driver.r; late = 0; inverters = 0 }

-- the signal s comes to this sink, at the node w of its net
pub record Meets (nets : ℕ → TimedNet) (signals : List Signal) (s : Signal) (w : ℕ) (goal : Sink) : Type 0 where
  pub come : Contains signals s
  pub here : end_at (nets s.net) w ≡ sink goal

-- what the sink has left: its required time, less the arrival at the first driver, this driver's own delay and the way
abbrev pub slack_behind : (ℕ → TimedNet) → Driver → Signal → ℕ → Sink → ℤ
slack_behind nets driver s w goal = goal.required -ℤ driver.arrival -ℤ (driver.k +ℤ pos (late_at (nets s.net) s w))

-- x is the least slack of all sinks that are reached from the first net
pub record IsRetimed (nets : ℕ → TimedNet) (first : ℕ) (driver : Driver) (x : ℤ) : Type 0 where
  pub signals : List Signal
  pub walk : IsWalk nets (start_of first driver) signals
  pub least : (s : Signal) (w : ℕ) (goal : Sink) → Meets nets signals s w goal → x ≤ℤ slack_behind nets driver s w goal
  pub met : (s : Signal) × (w : ℕ) × (goal : Sink) × Meets nets signals s w goal
      × (x ≡ slack_behind nets driver s w goal)

-- all of them have the polarity that they want
pub record HavePolarity (nets : ℕ → TimedNet) (first : ℕ) (driver : Driver) : Type 0 where
  pub signals : List Signal
  pub walk : IsWalk nets (start_of first driver) signals
  pub wanted : (s : Signal) (w : ℕ) (goal : Sink) → Meets nets signals s w goal → is_odd s.inverters ≡ goal.inverted

-- upward from a net, by the cells that drive, to the first net
abbrev pub IsClimb : (ℕ → TimedNet) → ℕ → List ℕ → ℕ → Type 0
IsClimb nets net [] first = (net ≡ first) × ((nets net).above ≡ None)
IsClimb nets net (next ∷ path) first = ((nets net).above ≡ Some next) × IsClimb nets next path first

-- nets re-time to at most one slack
abbrev pub OneRetiming : Type 0
OneRetiming = (nets : ℕ → TimedNet) (first : ℕ) (driver : Driver) (x y : ℤ) → IsRetimed nets first driver x
    → IsRetimed nets first driver y → x ≡ y

-- the walk stops at s: the nets before it, which alone have passed theirs on, are accepted and differ, and that of s is
-- not accepted, or came before
pub record IsStopped (nets : ℕ → TimedNet) (Accepted : ℕ → Type 0) (start s : Signal) : Type 0 where
  pub k : ℕ
  pub before : List Signal
  pub later : List Signal
  pub come : reached nets start k ≡ before ++ s ∷ later
  pub enough : k ≤ length before
  pub accepted : All (λ t. Accepted t.net) before
  pub once : AllPairs (λ a b. a.net ≢ b.net) before
  pub stops : (Accepted s.net → ⊥) ⊎ ((t : Signal) × Contains before t × (t.net ≡ s.net))
