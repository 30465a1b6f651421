-- Where a walk stops before its end.
use Rattle.std.specs.Prelude.{◌≡◌, ◌≢◌, ◌⊎◌, ℕ, List, [], ◌∷◌, map, Some}
use Rattle.std.specs.List.{All, AllPairs, Contains}
use Rattle.elmore.specs.declared.parts.Sink.{Sink}
use Rattle.cut_laws.specs.Walks.{Signal, TimedNet, IsStopped, Meets}
use Rattle.vg_design.specs.Designs.{Design}
use Rattle.spef_wire.specs.declared.refusal.Refusal.{Refusal}
use Rattle.spef_wire.specs.declared.refusal.Refusal.TheVariants.{Loop, NoDriver}
use Rattle.spef_wire.specs.declared.refusal.Refused.{Refused}
use Rattle.spef_wire.specs.declared.refusal.Refused.TheVariants.{Net as RefusedNet, Memory}
use Rattle.vg_retime.specs.Refusals.{IsFirstHere}
use Rattle.vg_retime.specs.WalkNets.{net_name, IsNetIn}
use Rattle.vg_retime.specs.Ways.{Nets, Way, begins, timed_nets}
use Rattle.vg_retime.specs.declared.climb.First.{First}
use Rattle.vg_retime.specs.declared.walk_net.Above.TheVariants.{Open}

-- a net stops a walk, where these came before: it is one of them, which is a loop; or it is new, and is refused
abbrev pub Stops : Design → List ℕ → List ℕ → ℕ → Refusal → Type 0
Stops d prefix before at refusal =
    (Contains before at × (refusal ≡ Loop)) ⊎ ((Contains before at → ⊥) × IsFirstHere d prefix (net_name d at) refusal)

-- the net is not refused, but the cell that drives it has no net at its input
pub record IsLost (d : Design) (prefix : List ℕ) (nets : Nets) (at : ℕ) : Type 0 where
  pub accepted : IsNetIn 17 d prefix at (nets at)
  pub lost : (nets at).above ≡ Open

-- upward from net number id over these nets, each driven by a cell at whose input the next one is, to the net `at`
abbrev pub IsRise : (ℕ → TimedNet) → ℕ → List ℕ → ℕ → Type 0
IsRise nets id [] at = id ≡ at
IsRise nets id (below ∷ more) at =
    (id ≡ below) × ((next : ℕ) × ((nets id).above ≡ Some next) × IsRise nets next more at)

-- the climb from net number id stops at the first net that is refused, that came before, or above which no net is found
pub record IsStoppedUp (d : Design) (prefix : List ℕ) (id : ℕ) (refusal : Refusal) : Type 0 where
  pub nets : Nets
  pub before : List ℕ
  pub at : ℕ
  pub rise : IsRise (timed_nets nets) id before at
  pub accepted : All (λ i. IsNetIn 17 d prefix i (nets i)) before
  pub once : AllPairs (λ a b. a ≢ b) before
  pub stops : Stops d prefix before at refusal
      ⊎ ((Contains before at → ⊥) × IsLost d prefix nets at × (refusal ≡ NoDriver))

-- the way down stops at the first signal whose net is refused, or came before
pub record IsStoppedDown (d : Design) (prefix : List ℕ) (first : First) (refusal : Refusal) : Type 0 where
  pub nets : Nets
  pub signal : Signal
  pub stopped : IsStopped (timed_nets nets) (λ i. IsNetIn 17 d prefix i (nets i)) (begins first) signal
  pub stops : Stops d prefix (map (λ s. s.net) stopped.before) signal.net refusal

-- no signal of a way comes to a sink
abbrev pub IsSinkless : Way → Type 0
IsSinkless way = (s : Signal) (w : ℕ) (goal : Sink) → Meets (timed_nets way.nets) way.signals s w goal → ⊥

-- or there is no room
abbrev pub IsRefusedUp : Design → List ℕ → ℕ → Refused → Type 0
IsRefusedUp d prefix id (RefusedNet refusal) = IsStoppedUp d prefix id refusal
IsRefusedUp d prefix id Memory = Unit {0}

abbrev pub IsRefusedDown : Design → List ℕ → First → Refused → Type 0
IsRefusedDown d prefix first (RefusedNet refusal) = IsStoppedDown d prefix first refusal
IsRefusedDown d prefix first Memory = Unit {0}
