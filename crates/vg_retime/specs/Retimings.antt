-- A net of a design, timed through the cells that were put in, or why it is not.
use Rattle.std.specs.Prelude.{◌≡◌, ℕ, List, Some, None}
use Rattle.cut_laws.specs.Walks.{IsRetimed}
use Rattle.vg_design.specs.Designs.{Design, net_number}
use Rattle.vg_design.specs.declared.time.Timed.{Timed}
use Rattle.spef_wire.specs.declared.refusal.Refusal.{Refusal}
use Rattle.spef_wire.specs.declared.refusal.Refusal.TheVariants.{UnknownNet, NoSink}
use Rattle.spef_wire.specs.declared.refusal.Refused.{Refused}
use Rattle.spef_wire.specs.declared.refusal.Refused.TheVariants.{Net, Memory}
use Rattle.vg_retime.specs.Stops.{IsSinkless, IsStoppedDown, IsStoppedUp}
use Rattle.vg_retime.specs.Ways.{Way, timed_nets, first_wrong, IsFirstNet, IsWay}
use Rattle.vg_retime.specs.declared.climb.First.{First}

-- The net of the asked name re-times to this slack, the least of all sinks that its way comes to, and this is the first
-- of them that has the wrong polarity, in the order of the signals and then of the tree. No refusal of a number below k
-- refuses a net on the way.
pub record Retimes (k : ℕ) (d : Design) (prefix asked : List ℕ) (timed : Timed) : Type 0 where
  pub way : Way
  pub is_way : IsWay k d prefix asked way
  pub slack : IsRetimed (timed_nets way.nets) way.first.net way.first.driver timed.slack
  pub wrong : timed.wrong ≡ first_wrong way.nets way.signals

-- the first refusal of the walk from the net of the asked name: there is no such net; or it comes on the way up, or on
-- the way down, or at the end
pub data IsFirstRefusal (d : Design) (prefix asked : List ℕ) (refusal : Refusal) : Type 0 where
  unknown : net_number d.netlist asked ≡ None → refusal ≡ UnknownNet → IsFirstRefusal d prefix asked refusal
  upward : (id : ℕ) → net_number d.netlist asked ≡ Some id → IsStoppedUp d prefix id refusal
      → IsFirstRefusal d prefix asked refusal
  downward : (id : ℕ) (first : First) → net_number d.netlist asked ≡ Some id → IsFirstNet 17 d prefix id first
      → IsStoppedDown d prefix first refusal
      → IsFirstRefusal d prefix asked refusal
  at_end : (way : Way) → IsWay 17 d prefix asked way → IsSinkless way → refusal ≡ NoSink
      → IsFirstRefusal d prefix asked refusal

abbrev pub IsRefused : Design → List ℕ → List ℕ → Refused → Type 0
IsRefused d prefix asked (Net refusal) = IsFirstRefusal d prefix asked refusal
IsRefused d prefix asked Memory = Unit {0}
