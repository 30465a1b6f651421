-- The way of a walk: up from the asked net to the first one, and from there down, breadth first.
use Rattle.std.specs.Prelude.{◌≡◌, ◌≢◌, ℕ, Bool, false, not, List, ◌∷◌, find, length, option_map, Option, Some, if◌then◌else◌}
use Rattle.std.specs.List.{All, AllPairs, filter_map, slice_get}
use Rattle.elmore.specs.Delay.{is_odd}
use Rattle.elmore.specs.Path.{nodes as node_numbers}
use Rattle.cut_laws.specs.Walks.{End, sink, Signal, TimedNet, end_at, start_of, IsClimb, IsWalk}
use Rattle.vg_design.specs.Designs.{Design, net_number}
use Rattle.vg_design.specs.Nets.{name_at}
use Rattle.vg_scan.specs.declared.name.NodeName.{NodeName}
use Rattle.vg_retime.specs.WalkNets.{WalkNet, timed, IsNetIn}
use Rattle.vg_retime.specs.declared.climb.First.{First}
use Rattle.vg_retime.specs.declared.walk_net.Above.TheVariants.{First as IsTop}

-- nets by their numbers, of which only those count that a walk comes to
abbrev pub Nets : Type 0
Nets = ℕ → WalkNet

abbrev pub timed_nets : Nets → ℕ → TimedNet
timed_nets nets id = timed (nets id)

-- from net number id one climbs to this first net, over no net twice; no refusal of a number below k refuses a net on
-- the way
pub record IsFirstNet (k : ℕ) (d : Design) (prefix : List ℕ) (id : ℕ) (first : First) : Type 0 where
  pub nets : Nets
  pub path : List ℕ
  pub climb : IsClimb (timed_nets nets) id path first.net
  pub once : AllPairs (λ a b. a ≢ b) (id ∷ path)
  pub accepted : All (λ i. IsNetIn k d prefix i (nets i)) (id ∷ path)
  pub top : (nets first.net).above ≡ IsTop
  pub driver : first.driver ≡ (nets first.net).driver

-- A way: its nets, the first of them, and the signals on the way down.
pub record Way : Type 0 where
  pub nets : Nets
  pub first : First
  pub signals : List Signal

-- the signal with which the way down begins
abbrev pub begins : First → Signal
begins first = start_of first.net first.driver

-- it is the way from the net of this name, and no refusal of a number below k refuses a net on it
pub record IsWay (k : ℕ) (d : Design) (prefix asked : List ℕ) (way : Way) : Type 0 where
  pub id : ℕ
  pub named : net_number d.netlist asked ≡ Some id
  pub climb : IsFirstNet k d prefix id way.first
  pub walk : IsWalk (timed_nets way.nets) (begins way.first) way.signals
  pub met : All (λ s. IsNetIn k d prefix s.net (way.nets s.net)) way.signals

-- ---- polarity

-- a sink stands there that wants the other polarity
abbrev pub is_wrong : Bool → End → Bool
is_wrong inverted (sink goal) = if goal.inverted then not inverted else inverted
is_wrong inverted _ = false

-- the first such node of a net to which a signal comes, in tree order
abbrev pub wrong_node : WalkNet → Signal → Option ℕ
wrong_node net s = find (λ w. is_wrong (is_odd s.inverters) (end_at (timed net) w)) (node_numbers (length net.ends))

-- its name
abbrev pub wrong_in : WalkNet → Signal → Option NodeName
wrong_in net s = option_map (name_at net.names) (wrong_node net s)

-- the first of all, in the order of the signals
abbrev pub first_wrong : Nets → List Signal → Option NodeName
first_wrong nets signals = slice_get (filter_map (λ s. wrong_in (nets s.net) s) signals) 0
