-- The timing of a whole design, or why there is none.
use Rattle.std.specs.Prelude.{◌≡◌, ℕ, ◌<◌, List, [], map, None, Some}
use Rattle.std.specs.List.{Contains, slice_get}
use Rattle.sta_graph.specs.Answers.{AreSlacks, IsFirstAfterCycle}
use Rattle.sta_graph.specs.Paths.{IsAfterCycle, IsFirstEnd, IsLeast}
use Rattle.sta_graph.specs.declared.graph.Graph.{Graph}
use Rattle.spef_wire.specs.declared.refusal.Refusal.{Refusal}
use Rattle.spef_wire.specs.declared.refusal.Refusal.TheVariants.{Unconstrained}
use Rattle.vg_cons.specs.Rows.{required_of}
use Rattle.vg_design.specs.Designs.{Design, net_names}
use Rattle.vg_design.specs.Nets.{name_at, IsBareNet}
use Rattle.vg_design.specs.Refusals.{IsFirstBareRefusal}
use Rattle.vg_design.specs.declared.bare_parts.BareNet.{BareNet}
use Rattle.vg_sta.specs.Graphs.{Leads, NamedNet, place_at, IsGraphOf}
use Rattle.vg_sta.specs.declared.answer.Sta.{Sta}
use Rattle.vg_sta.specs.declared.answer.StaFault.{StaFault}
use Rattle.vg_sta.specs.declared.answer.StaFault.TheVariants.{Net, Cycle, NoPath, Memory}

-- ---- refused nets

-- a sink at this node of a net leads nowhere, and no time is required there
pub record IsUnconstrainedEnd (d : Design) (name : List ℕ) (net : BareNet) (u : ℕ) : Type 0 where
  pub sink : Contains net.sinks u
  pub none : required_of d.rows (name_at net.names u) ≡ None
  pub end : (v : ℕ) → Leads d (record { net = name; at = name_at net.names u }) v → ⊥

-- The net of this name is refused: by itself, whatever the constraints ask for; or one of its endpoints has no required
-- time, of which the first in tree order is named.
pub data IsRefused (d : Design) (name : List ℕ) (refusal : Refusal) : Type 0 where
  by_itself : IsFirstBareRefusal d name refusal → IsRefused d name refusal
  unconstrained : (net : BareNet) → IsBareNet d name net → (u : ℕ) → IsUnconstrainedEnd d name net u
      → ((w : ℕ) → w < u → IsUnconstrainedEnd d name net w → ⊥) → refusal ≡ Unconstrained (name_at net.names u)
      → IsRefused d name refusal

-- it is the first net of the SPEF file, in the order of the file, that is refused
pub record IsFirstRefused (d : Design) (name : List ℕ) (refusal : Refusal) : Type 0 where
  pub at : ℕ
  pub named : slice_get (net_names d.spef) at ≡ Some name
  pub refused : IsRefused d name refusal
  pub first : (before : ℕ) (other : List ℕ) (reason : Refusal) → before < at
      → slice_get (net_names d.spef) before ≡ Some other → IsRefused d other reason → ⊥

abbrev pub NoneIsRefused : Design → Type 0
NoneIsRefused d = (name : List ℕ) (refusal : Refusal) → Contains (net_names d.spef) name → IsRefused d name refusal → ⊥

-- ---- the answer

-- No net is refused and no sinks lead from a net back to itself. Of all paths this is the least slack, and the first
-- endpoint of a path with it; of each net, in the order of the SPEF file, it is the least slack of the paths through it.
pub record IsTimed (d : Design) (found : Sta) : Type 0 where
  pub accepted : NoneIsRefused d
  pub nets : List NamedNet
  pub graph : Graph
  pub graph_of : IsGraphOf d nets graph
  pub acyclic : (v : ℕ) → IsAfterCycle graph v → ⊥
  pub worst : IsLeast graph found.worst
  pub last : ℕ
  pub first_end : IsFirstEnd graph found.worst last
  pub end : found.end ≡ (place_at nets last).at
  pub names : map (λ n. n.net) found.nets ≡ net_names d.spef
  pub slacks : AreSlacks graph (map (λ n. n.slack) found.nets)

-- no net is refused, and this is the first net, in the order of the SPEF file, that lies on a cycle of nets or to which
-- sinks lead from one
pub record IsFirstBehindCycle (d : Design) (name : List ℕ) : Type 0 where
  pub accepted : NoneIsRefused d
  pub nets : List NamedNet
  pub graph : Graph
  pub graph_of : IsGraphOf d nets graph
  pub at : ℕ
  pub named : slice_get (net_names d.spef) at ≡ Some name
  pub first : IsFirstAfterCycle graph at

abbrev pub IsFault : Design → StaFault → Type 0
IsFault d (Net name refusal) = IsFirstRefused d name refusal
IsFault d (Cycle name) = IsFirstBehindCycle d name
IsFault d NoPath = net_names d.spef ≡ []
IsFault d Memory = Unit {0}
