-- From the graph back to the design's names: for the functions between.
use Rattle.std.specs.Prelude.{◌≡◌, ℕ, ◌<◌, ◌≤◌, ◌^◌, List, length, map, ℤ, Some}
use Rattle.std.specs.List.{flat_map, slice_get}
use Rattle.sta_graph.specs.Answers.{AreSlacks}
use Rattle.sta_graph.specs.Paths.{IsAfterCycle, IsFirstEnd, IsLeast}
use Rattle.sta_graph.specs.declared.graph.Graph.{Graph}
use Rattle.sta_graph.specs.declared.slacks.Slacks.{Slacks}
use Rattle.vg_scan.specs.declared.name.NodeName.{NodeName}
use Rattle.vg_design.specs.Designs.{Design, net_names}
use Rattle.vg_design.specs.Nets.{name_at, IsBareNet}
use Rattle.vg_design.specs.declared.bare_parts.BareNet.{BareNet}
use Rattle.vg_sta.specs.Graphs.{NamedNet, place_at, IsGraphOf}
use Rattle.vg_sta.specs.Timings.{NoneIsRefused}
use Rattle.vg_sta.specs.declared.answer.StaNet.{StaNet}
use Rattle.vg_sta.specs.declared.timing.Listed.{Listed}

-- no net of the design is refused, and this is its graph, with the node of each sink
pub record IsListedGraph (d : Design) (listed : Listed) : Type 0 where
  pub accepted : NoneIsRefused d
  pub nets : List NamedNet
  pub graph_of : IsGraphOf d nets listed.graph
  pub nodes : listed.nodes.items ≡ flat_map (λ n. n.net.sinks) nets
  pub few_sinks : length listed.graph.sinks ≤ 2 ^ 30
  pub few_leads : length listed.graph.leads ≤ 2 ^ 30
  pub few_nets : length (net_names d.spef) ≤ 2 ^ 30

-- the slacks of a graph
pub record IsTimedGraph (g : Graph) (found : Slacks) : Type 0 where
  pub acyclic : (v : ℕ) → IsAfterCycle g v → ⊥
  pub worst : IsLeast g found.worst
  pub end : IsFirstEnd g found.worst found.end
  pub nets : AreSlacks g found.nets

-- the net of a section, which is not refused by itself, has this node
pub record IsNodeOf (d : Design) (section node : ℕ) : Type 0 where
  pub name : List ℕ
  pub named : slice_get (net_names d.spef) section ≡ Some name
  pub net : BareNet
  pub net_of : IsBareNet d name net
  pub low : node < length net.names

-- whose name is this, whatever stands for the net
abbrev pub IsNameOf : Design → ℕ → ℕ → NodeName → Type 0
IsNameOf d section node found =
    (name : List ℕ) (net : BareNet) → slice_get (net_names d.spef) section ≡ Some name → IsBareNet d name net
    → found ≡ name_at net.names node

-- the sink of this number has this name
abbrev pub IsEndAt : Design → Listed → ℕ → NodeName → Type 0
IsEndAt d listed sink found =
    (nets : List NamedNet) → IsGraphOf d nets listed.graph → listed.nodes.items ≡ flat_map (λ n. n.net.sinks) nets
    → found ≡ (place_at nets sink).at

-- these are the nets of the SPEF file with their slacks
pub record AreNamed (d : Design) (times : List ℤ) (nets : List StaNet) : Type 0 where
  pub names : map (λ n. n.net) nets ≡ net_names d.spef
  pub slacks : map (λ n. n.slack) nets ≡ times
