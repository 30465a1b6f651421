-- Paths through a graph of nets. A path is a list of sinks, each of which leads to the net of the next one, and a last
-- sink that leads nowhere.
use Rattle.std.specs.Prelude.{◌≡◌, ℕ, ◌<◌, ◌⊎◌, List, [], ◌∷◌, length, slice_index_or, ℤ, pos, ◌+ℤ◌, ◌-ℤ◌, ◌≤ℤ◌}
use Rattle.sta_graph.specs.declared.graph.Graph.{Graph}
use Rattle.sta_graph.specs.declared.graph.Lead.{Lead}
use Rattle.sta_graph.specs.declared.graph.Sink.{Sink}

abbrev pub net_count : Graph → ℕ
net_count g = length g.arrivals

abbrev pub sink_at : Graph → ℕ → Sink
sink_at g j = slice_index_or g.sinks j (record { net = 0; delay = pos 0; required = pos 0 })

abbrev pub lead_at : Graph → ℕ → Lead
lead_at g i = slice_index_or g.leads i (record { sink = 0; net = 0 })

-- the net of sink j
abbrev pub owner : Graph → ℕ → ℕ
owner g j = (sink_at g j).net

abbrev pub delay_of : Graph → ℕ → ℤ
delay_of g j = (sink_at g j).delay

abbrev pub required_of : Graph → ℕ → ℤ
required_of g j = (sink_at g j).required

abbrev pub arrival_of : Graph → ℕ → ℤ
arrival_of g v = slice_index_or g.arrivals v (pos 0)

-- the sink of lead i, and its two nets
abbrev pub lead_sink : Graph → ℕ → ℕ
lead_sink g i = (lead_at g i).sink

abbrev pub from_of : Graph → ℕ → ℕ
from_of g i = owner g (lead_at g i).sink

abbrev pub to_of : Graph → ℕ → ℕ
to_of g i = (lead_at g i).net

abbrev pub lead_delay : Graph → ℕ → ℤ
lead_delay g i = delay_of g (lead_at g i).sink

-- numbers name nets and sinks, and each net has a sink
pub record IsGraph (g : Graph) : Type 0 where
  pub owners : (j : ℕ) → j < length g.sinks → owner g j < net_count g
  pub lead_sinks : (i : ℕ) → i < length g.leads → (lead_at g i).sink < length g.sinks
  pub lead_nets : (i : ℕ) → i < length g.leads → to_of g i < net_count g
  pub some_sink : (v : ℕ) → v < net_count g → (j : ℕ) × (j < length g.sinks) × (owner g j ≡ v)

-- sink j leads to net v
pub record LeadsTo (g : Graph) (j v : ℕ) : Type 0 where
  pub lead : ℕ
  pub number : lead < length g.leads
  pub by : (lead_at g lead).sink ≡ j
  pub to : to_of g lead ≡ v

pub record IsStart (g : Graph) (v : ℕ) : Type 0 where
  pub net : v < net_count g
  pub none : (j : ℕ) → LeadsTo g j v → ⊥

pub record IsEnd (g : Graph) (j : ℕ) : Type 0 where
  pub sink : j < length g.sinks
  pub nowhere : (v : ℕ) → LeadsTo g j v → ⊥

-- the sinks lead from net v on to net w, one after the other
abbrev pub IsTrail : Graph → ℕ → List ℕ → ℕ → Type 0
IsTrail g v [] w = v ≡ w
IsTrail g v (j ∷ trail) w = (owner g j ≡ v) × (x : ℕ) × LeadsTo g j x × IsTrail g x trail w

abbrev pub delay_along : Graph → List ℕ → ℤ
delay_along g [] = pos 0
delay_along g (j ∷ trail) = delay_of g j +ℤ delay_along g trail

-- a path from net s by the sinks of the trail to the endpoint e
pub record IsPath (g : Graph) (s : ℕ) (trail : List ℕ) (e : ℕ) : Type 0 where
  pub start : IsStart g s
  pub ends : IsEnd g e
  pub leads : IsTrail g s trail (owner g e)

abbrev pub slack_of : Graph → ℕ → List ℕ → ℕ → ℤ
slack_of g s trail e = required_of g e -ℤ arrival_of g s -ℤ (delay_along g trail +ℤ delay_of g e)

-- net v is one of the path's nets
abbrev pub PassesThrough : Graph → List ℕ → ℕ → ℕ → Type 0
PassesThrough g [] e v = owner g e ≡ v
PassesThrough g (j ∷ trail) e v = (owner g j ≡ v) ⊎ PassesThrough g trail e v

pub record IsOnCycle (g : Graph) (v : ℕ) : Type 0 where
  pub first : ℕ
  pub more : List ℕ
  pub around : IsTrail g v (first ∷ more) v

-- net v lies on a cycle or is reached from one
pub record IsAfterCycle (g : Graph) (v : ℕ) : Type 0 where
  pub net : ℕ
  pub cycle : IsOnCycle g net
  pub trail : List ℕ
  pub reached : IsTrail g net trail v

-- the latest arrival at net v's driver
pub record IsLatest (g : Graph) (v : ℕ) (a : ℤ) : Type 0 where
  pub start : ℕ
  pub trail : List ℕ
  pub starts : IsStart g start
  pub leads : IsTrail g start trail v
  pub attained : a ≡ arrival_of g start +ℤ delay_along g trail
  pub latest : (s : ℕ) (others : List ℕ) → IsStart g s → IsTrail g s others v
      → (arrival_of g s +ℤ delay_along g others) ≤ℤ a

-- the earliest time by which a signal has to be at net v's driver
pub record IsEarliest (g : Graph) (v : ℕ) (r : ℤ) : Type 0 where
  pub last : ℕ
  pub trail : List ℕ
  pub ends : IsEnd g last
  pub leads : IsTrail g v trail (owner g last)
  pub attained : r ≡ required_of g last -ℤ (delay_along g trail +ℤ delay_of g last)
  pub earliest : (e : ℕ) (others : List ℕ) → IsEnd g e → IsTrail g v others (owner g e)
      → r ≤ℤ (required_of g e -ℤ (delay_along g others +ℤ delay_of g e))

-- the least slack of the paths through net v
pub record IsLeastThrough (g : Graph) (v : ℕ) (x : ℤ) : Type 0 where
  pub start : ℕ
  pub trail : List ℕ
  pub last : ℕ
  pub path : IsPath g start trail last
  pub through : PassesThrough g trail last v
  pub attained : x ≡ slack_of g start trail last
  pub least : (s : ℕ) (others : List ℕ) (e : ℕ) → IsPath g s others e → PassesThrough g others e v
      → x ≤ℤ slack_of g s others e

-- the least slack of all paths
pub record IsLeast (g : Graph) (x : ℤ) : Type 0 where
  pub start : ℕ
  pub trail : List ℕ
  pub last : ℕ
  pub path : IsPath g start trail last
  pub attained : x ≡ slack_of g start trail last
  pub least : (s : ℕ) (others : List ℕ) (e : ℕ) → IsPath g s others e → x ≤ℤ slack_of g s others e

-- a path with slack x ends at e, and none at an endpoint before it
pub record IsFirstEnd (g : Graph) (x : ℤ) (e : ℕ) : Type 0 where
  pub start : ℕ
  pub trail : List ℕ
  pub path : IsPath g start trail e
  pub attained : x ≡ slack_of g start trail e
  pub first : (s : ℕ) (others : List ℕ) (before : ℕ) → before < e → IsPath g s others before
      → x ≡ slack_of g s others before → ⊥
