-- A walk on its way down, and the sizes of what it computes with: for the functions between.
use Rattle.std.specs.Prelude.{◌≡◌, ◌≢◌, ℕ, ◌*◌, ◌^◌, ◌<◌, ◌≤◌, List, ◌++◌, map, take, length, Option, Some, None, IfSome, eqb}
use Rattle.std.specs.List.{All, AllPairs, IsDistinct}
use Rattle.elmore.specs.Problems.{IsDriverWithin, IsSmall}
use Rattle.elmore.specs.Trees.{IsTree, IsWithinLimits}
use Rattle.cut_laws.specs.Walks.{End, nothing, sink, passes, Signal, TimedNet, late_at, passed, passed_on, reached}
use Rattle.vg_design.specs.Designs.{Design}
use Rattle.vg_scan.specs.declared.name.NodeName.{NodeName}
use Rattle.vg_retime.specs.Times.{lefts_in, lefts_of, IsLeastOf, IsLeastWith, IsTime}
use Rattle.vg_retime.specs.WalkNets.{WalkNet, timed, IsNetIn}
use Rattle.vg_retime.specs.Ways.{Nets, begins, first_wrong, timed_nets, wrong_in}
use Rattle.vg_retime.specs.declared.climb.First.{First}
use Rattle.vg_retime.specs.declared.down.Walk.{Walk}
use Rattle.vg_retime.specs.declared.signals.Signal.{Signal as SignalHere}
use Rattle.vg_retime.specs.declared.walk_net.Above.{Above}
use Rattle.vg_retime.specs.declared.walk_net.Above.TheVariants.{Net}

-- ---- sizes

-- what stands at a node leads to one of so many nets, by a repeater that is within the limits; a sink's required time
-- is small
abbrev pub IsSizedEnd : ℕ → End → Type 0
IsSizedEnd count nothing = Unit {0}
IsSizedEnd count (sink goal) = IsSmall goal.required
IsSizedEnd count (passes rep next) = (rep.r ≤ 10 ^ 9) × (rep.k ≤ 10 ^ 18) × IfSome next (λ id. id < count)

abbrev pub IsAboveWithin : ℕ → Above → Type 0
IsAboveWithin count (Net id) = id < count
IsAboveWithin count _ = Unit {0}

-- a net leads to some of so many nets, and is within the limits
pub record IsSizedNet (count : ℕ) (net : WalkNet) : Type 0 where
  pub a_tree : IsTree net.tree
  pub limits : IsWithinLimits net.tree
  pub one_each : length net.ends ≡ length net.tree
  pub named : length net.names ≡ length net.tree
  pub ends : All (IsSizedEnd count) net.ends
  pub driver : IsDriverWithin net.driver
  pub above : IsAboveWithin count net.above

pub record IsFirstWithin (count : ℕ) (first : First) : Type 0 where
  pub net : first.net < count
  pub driver : IsDriverWithin first.driver

-- a signal has come through so many nets
pub record IsSizedSignal (count turns : ℕ) (s : Signal) : Type 0 where
  pub net : s.net < count
  pub r : s.r ≤ 10 ^ 9
  pub late : s.late ≤ turns * 10 ^ 24
  pub inverters : s.inverters ≤ turns

-- ---- the walk

abbrev pub signal_of : SignalHere → Signal
signal_of s = record { net = s.net; r = s.r; late = s.late; inverters = s.inverters }

abbrev pub signals_of : Walk → List Signal
signals_of walk = map signal_of walk.signals.items

abbrev pub first_of : Option NodeName → Option NodeName → Option NodeName
first_of None wrong = wrong
first_of (Some first) wrong = Some first

-- the signal behind what stands at a node, where this one comes late there
abbrev pub IsPassedAt : Signal → End → ℕ → Option Signal → Type 0
IsPassedAt s end late next = (net : TimedNet) (w : ℕ) → late ≡ late_at net s w → next ≡ passed net s w end

-- a signal came to a net: its sinks are met, and it is passed on
pub record IsVisited (net : WalkNet) (s : Signal) (old new : Walk) : Type 0 where
  pub first : new.first ≡ old.first
  pub come : new.come ≡ old.come
  pub signals : signals_of new ≡ signals_of old ++ passed_on (timed net) s
  pub least : IsLeastWith (lefts_in (timed net) s) old.least new.least
  pub small : IfSome old.least IsTime → IfSome new.least IsTime
  pub wrong : new.wrong ≡ first_of old.wrong (wrong_in net s)

-- these signals were passed on, by nets that nothing refuses and that differ
pub record ArePassedOn (d : Design) (prefix : List ℕ) (nets : Nets) (signals : List Signal) : Type 0 where
  pub accepted : All (λ s. IsNetIn 17 d prefix s.net (nets s.net)) signals
  pub once : AllPairs (λ a b. a.net ≢ b.net) signals

-- what a walk keeps of the signals that were passed on
pub record IsKept (nets : Nets) (done : List Signal) (walk : Walk) : Type 0 where
  pub come : walk.come ≡ map (λ s. s.net) done
  pub once : IsDistinct eqb walk.come
  pub least : IsLeastOf (lefts_of (timed_nets nets) done) walk.least
  pub small : IfSome walk.least IsTime
  pub wrong : walk.wrong ≡ first_wrong nets done

-- so many signals of a walk were passed on
pub record IsUnderWay (d : Design) (prefix : List ℕ) (at : ℕ) (walk : Walk) : Type 0 where
  pub nets : Nets
  pub come : signals_of walk ≡ reached (timed_nets nets) (begins walk.first) at
  pub within : at ≤ length walk.signals.items
  pub passed : ArePassedOn d prefix nets (take at (signals_of walk))
  pub kept : IsKept nets (take at (signals_of walk)) walk
  pub sized : All (IsSizedSignal (length d.netlist.nets) at) (signals_of walk)
