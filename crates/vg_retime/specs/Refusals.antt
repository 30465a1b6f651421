-- Why a net on a walk is refused: as a net by itself, but only a sink that is not passed needs a required time.
use Rattle.std.specs.Prelude.{◌≡◌, ℕ, ◌<◌, ◌&&◌, Bool, List, find, is_none, Option, Some, None}
use Rattle.spef_net.specs.declared.net.ParConn.{ParConn}
use Rattle.vg_scan.specs.declared.name.NodeName.{NodeName}
use Rattle.spef_wire.specs.Refusals.{number_of}
use Rattle.spef_wire.specs.declared.refusal.Refusal.{Refusal}
use Rattle.spef_wire.specs.declared.refusal.Refusal.TheVariants.{Unconstrained}
use Rattle.spef_wire.specs.declared.refusal.Refused.{Refused}
use Rattle.spef_wire.specs.declared.refusal.Refused.TheVariants.{Net, Memory}
use Rattle.vg_design.specs.Designs.{Design, Joined, name_of}
use Rattle.vg_design.specs.Refusals.{IsFirstConn, IsJoined, Refuses, is_unconstrained}
use Rattle.vg_retime.specs.Passages.{into_at}

-- a sink that is not passed, without a required time
abbrev pub is_unconstrained_here : Design → List ℕ → Joined → ParConn → Bool
is_unconstrained_here d prefix n conn =
    is_unconstrained d.rows n.par conn && is_none (into_at d prefix n (name_of n.par conn.node))

-- in the net of this name, the first of them has this name
pub record HasUnconstrained (d : Design) (prefix name : List ℕ) (at : NodeName) : Type 0 where
  pub net : Joined
  pub joined : IsJoined d name net
  pub first : IsFirstConn net.par (is_unconstrained_here d prefix net) at

-- the condition of a refusal, for the net of a name
abbrev pub RefusesHere : Design → List ℕ → List ℕ → Refusal → Type 0
RefusesHere d prefix name (Unconstrained at) = HasUnconstrained d prefix name at
RefusesHere d prefix name refusal = Refuses d name refusal

-- no refusal of a smaller number has its condition
abbrev pub PassesHere : ℕ → Design → List ℕ → List ℕ → Type 0
PassesHere k d prefix name = (refusal : Refusal) → number_of refusal < k → RefusesHere d prefix name refusal → ⊥

-- the net is refused by the first refusal whose condition holds
pub record IsFirstHere (d : Design) (prefix name : List ℕ) (refusal : Refusal) : Type 0 where
  pub holds : RefusesHere d prefix name refusal
  pub first : PassesHere (number_of refusal) d prefix name

abbrev pub IsRefusedHere : Design → List ℕ → List ℕ → Refused → Type 0
IsRefusedHere d prefix name (Net refusal) = IsFirstHere d prefix name refusal
IsRefusedHere d prefix name Memory = Unit {0}

-- the name of the first sink that is not passed and has no required time, if there is one
abbrev pub FindsUnconstrainedHere : Design → List ℕ → Joined → Option NodeName → Type 0
FindsUnconstrainedHere d prefix n None = find (is_unconstrained_here d prefix n) n.par.conns ≡ None
FindsUnconstrainedHere d prefix n (Some name) = IsFirstConn n.par (is_unconstrained_here d prefix n) name
