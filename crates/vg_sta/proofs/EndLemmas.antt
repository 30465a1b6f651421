-- The name of a sink, and what is told of a graph by the names of a design.
use Rattle.std.proofs.Common.{◌≡◌, ℕ, suc, ◌+◌, ◌-◌, ◌<◌, List, [], ◌∷◌, ◌++◌, map, length, get_or, slice_get, inl, inr, refl, sym, ap, ◌∙◌, subst, arith, Some, Ok, Err, Result, IfOk, option_map, ℤ}
use Rattle.std.specs.List.{Contains, flat_map}
use Rattle.std.proofs.lemmas.Bool.{cases_lt}
use Rattle.std.proofs.lemmas.List.{get_or_append_left, get_or-append-add, get_or-map, length-append, length-map}
use Rattle.std.proofs.lemmas.List.Elements.{All-contains, Contains-get_or}
use Rattle.std.proofs.lemmas.Option.{slice_get-map}
use Rattle.sta_graph.specs.Answers.{AreSlacks}
use Rattle.sta_graph.specs.Paths.{IsFirstEnd, IsLeast, owner}
use Rattle.sta_graph.specs.declared.graph.Sink.{Sink}
use Rattle.sta_graph.specs.declared.slacks.Slacks.{Slacks}
use Rattle.vg_num.specs.declared.memory.Memory.{Memory}
use Rattle.vg_scan.specs.declared.name.NodeName.{NodeName}
use Rattle.vg_design.specs.Designs.{Design, net_names}
use Rattle.vg_design.specs.Nets.{name_at, IsBareNet}
use Rattle.vg_design.specs.declared.bare_parts.BareNet.{BareNet}
use Rattle.vg_sta.specs.Ends.{AreNamed, IsEndAt, IsListedGraph, IsNameOf, IsNodeOf, IsTimedGraph}
use Rattle.vg_sta.specs.Graphs.{NamedNet, NO_PLACE, SinkPlace, place_at, places_in, places_of, sink_of, sinks_from, IsGraphOf}
use Rattle.vg_sta.specs.Timings.{IsTimed}
use Rattle.vg_sta.specs.declared.answer.Sta.{Sta}
use Rattle.vg_sta.specs.declared.timing.Listed.{Listed}
use Rattle.vg_design.proofs.LawLemmas.{one_bare_net}
use Rattle.vg_sta.proofs.AddLemmas.{one_place_each}
use Rattle.vg_sta.proofs.GraphLemmas.{NO_SINK}
use Rattle.vg_sta.proofs.ListLemmas.{contains_get}

-- sink j is that of a node of the net of section v + k
pub record IsSinkOf (d : Design) (v : ℕ) (nets : List NamedNet) (j : ℕ) : Type 0 where
  pub place : ℕ
  pub net : NamedNet
  pub is_net : slice_get nets place ≡ Some net
  pub section : (get_or (sinks_from d v nets) j NO_SINK).net ≡ v + place
  pub node : ℕ
  pub among : Contains net.net.sinks node
  pub is_node : get_or (flat_map (λ (n : NamedNet). n.net.sinks) nets) j 0 ≡ node
  pub named : place_at nets j ≡ record { net = net.name; at = name_at net.net.names node }

pub sink_is : (d : Design) (v : ℕ) (nets : List NamedNet) (j : ℕ) → j < length (places_of nets) → IsSinkOf d v nets j
unfolding sinks_from
sink_is d v [] j low = absurd (omega (arith, low))
sink_is d v (n ∷ nets) j low = elim (cases_lt j (length n.net.sinks)) [
  | inl here ↦ record {
    place = 0;
    net = n;
    is_net = refl;
    section = (let own = length-map n.net.sinks (sink_of d v n.net) in
        ap (λ (s : Sink). s.net) (get_or_append_left (map (sink_of d v n.net) n.net.sinks) (sinks_from d (v + 1) nets) NO_SINK j (omega (arith, here, own)) ∙ get_or-map (sink_of d v n.net) n.net.sinks j 0 NO_SINK here) ∙ (omega arith));
    node = get_or n.net.sinks j 0;
    among = Contains-get_or n.net.sinks j 0 here;
    is_node = get_or_append_left n.net.sinks (flat_map (λ (n : NamedNet). n.net.sinks) nets) 0 j here;
    named = (let own = length-map {B = SinkPlace} n.net.sinks (λ u. record { net = n.name; at = name_at n.net.names u }) in
        get_or_append_left (places_in n) (places_of nets) NO_PLACE j (omega (arith, here, own)) ∙ get_or-map (λ u. record { net = n.name; at = name_at n.net.names u }) n.net.sinks j 0 NO_PLACE here);
  }
  | inr past ↦
      (let i = j - length n.net.sinks in
      let is : j ≡ length n.net.sinks + i = omega (arith, past) in
      let own = length-map {B = SinkPlace} n.net.sinks (λ u. record { net = n.name; at = name_at n.net.names u }) in
      let all = length-append (places_in n) (places_of nets) in
      let rest = sink_is d (v + 1) nets i (omega (arith, low, past, own, all)) in
      let before = length-map n.net.sinks (sink_of d v n.net) in
      let section = rest.section in
      record {
        place = suc rest.place;
        net = rest.net;
        is_net = rest.is_net;
        section = ap (λ (s : Sink). s.net) (ap (λ (k : ℕ). get_or (map (sink_of d v n.net) n.net.sinks ++ sinks_from d (v + 1) nets) k NO_SINK) (is ∙ ap (λ (m : ℕ). m + i) (sym before))
            ∙ get_or-append-add (map (sink_of d v n.net) n.net.sinks) (sinks_from d (v + 1) nets) i NO_SINK) ∙ section ∙ (omega arith);
        node = rest.node;
        among = rest.among;
        is_node = ap (λ (k : ℕ). get_or (n.net.sinks ++ flat_map (λ (n : NamedNet). n.net.sinks) nets) k 0) is ∙ get_or-append-add n.net.sinks (flat_map (λ (n : NamedNet). n.net.sinks) nets) i 0 ∙ rest.is_node;
        named = ap (λ (k : ℕ). get_or (places_in n ++ places_of nets) k NO_PLACE) (is ∙ ap (λ (m : ℕ). m + i) (sym own)) ∙ get_or-append-add (places_in n) (places_of nets) i NO_PLACE ∙ rest.named;
      })
]

module _ (d : Design) (listed : Listed) (nets : List NamedNet) (is : IsGraphOf d nets listed.graph) (nodes : listed.nodes.items ≡ flat_map (λ n. n.net.sinks) nets) (j : ℕ) (low : j < length (places_of nets)) where
  sink : IsSinkOf d 0 nets j
  sink = sink_is d 0 nets j low

  section_is : owner listed.graph j ≡ sink.place
  section_is = ap (λ (xs : List Sink). (get_or xs j NO_SINK).net) is.sinks ∙ sink.section ∙ (omega arith)

  node_is : get_or listed.nodes.items j 0 ≡ sink.node
  node_is = ap (λ (xs : List ℕ). get_or xs j 0) nodes ∙ sink.is_node

  name_is : slice_get (net_names d.spef) sink.place ≡ Some sink.net.name
  name_is = ap (λ (xs : List (List ℕ)). slice_get xs sink.place) (sym is.names) ∙ slice_get-map (λ (n : NamedNet). n.name) nets sink.place ∙ ap (option_map (λ (n : NamedNet). n.name)) sink.is_net

  net_is : IsBareNet d sink.net.name sink.net.net
  net_is = All-contains (λ n. IsBareNet d n.name n.net) nets sink.net is.each (contains_get nets sink.place sink.net sink.is_net)

  -- a sink has its node in the net of its section
  pub node_there : IsNodeOf d (owner listed.graph j) (get_or listed.nodes.items j 0)
  node_there =
      let (k, within, at) = sink.among in
      let few = sink.net.net.within k sink.node within in
      let size = sink.net.net.named in
      let node = node_is in
      record {
        name = sink.net.name;
        named = ap (slice_get (net_names d.spef)) section_is ∙ name_is;
        net = sink.net.net;
        net_of = net_is;
        low = omega (arith, few, at, size, node);
      }

  -- and that node's name is the sink's
  pub end_there : (found : NodeName) → IsNameOf d (owner listed.graph j) (get_or listed.nodes.items j 0) found → found ≡ (place_at nets j).at
  end_there found at =
      at sink.net.name sink.net.net (ap (slice_get (net_names d.spef)) section_is ∙ name_is) net_is
      ∙ ap (name_at sink.net.net.names) node_is
      ∙ sym (ap (λ (p : SinkPlace). p.at) sink.named)

-- a section has one net, and its nodes one name each
pub one_net : (d : Design) (section : ℕ) (a b : List ℕ) (x y : BareNet) → slice_get (net_names d.spef) section ≡ Some a → slice_get (net_names d.spef) section ≡ Some b
    → IsBareNet d a x → IsBareNet d b y → x.names ≡ y.names
one_net d section a b x y at_a at_b p q =
    let same : a ≡ b = some_name a b (sym at_a ∙ at_b) in
    (one_bare_net d b x y (subst (λ (name : List ℕ). IsBareNet d name x) same p) q).names
  where
    some_name : (a b : List ℕ) → Some a ≡ Some b → a ≡ b
    some_name a b e = cc

-- each sink has a node
pub one_node_each : (nets : List NamedNet) → length (flat_map (λ (n : NamedNet). n.net.sinks) nets) ≡ length (places_of nets)
one_node_each [] = refl
one_node_each (n ∷ nets) =
    length-append n.net.sinks (flat_map (λ (n : NamedNet). n.net.sinks) nets)
    ∙ (λ i. sym (length-map {B = SinkPlace} n.net.sinks (λ u. record { net = n.name; at = name_at n.net.names u })) i + one_node_each nets i)
    ∙ sym (length-append (places_in n) (places_of nets))

pub all_places : (d : Design) (listed : Listed) (nets : List NamedNet) → IsGraphOf d nets listed.graph → length listed.graph.sinks ≡ length (places_of nets)
all_places d listed nets is = ap length is.sinks ∙ one_place_each d 0 nets

pub all_nodes : (d : Design) (listed : Listed) (are : IsListedGraph d listed) → length listed.nodes.items ≡ length listed.graph.sinks
all_nodes d listed are = ap length are.nodes ∙ one_node_each are.nets ∙ sym (all_places d listed are.nets are.graph_of)

-- what a sink's node is named, its place in the design is named
pub ends_there : (d : Design) (listed : Listed) (are : IsListedGraph d listed) (j : ℕ) (section node : ℕ) (result : Result NodeName Memory) → j < length listed.graph.sinks
    → section ≡ owner listed.graph j → node ≡ get_or listed.nodes.items j 0 → IfOk result (IsNameOf d section node) → IfOk result (IsEndAt d listed j)
ends_there d listed are j section node (Ok found) low section_is node_is named = λ nets is nodes.
    let size = all_places d listed nets is in
    end_there d listed nets is nodes j (omega (arith, low, size)) found (subst (λ (n : ℕ). IsNameOf d (owner listed.graph j) n found) node_is (subst (λ (s : ℕ). IsNameOf d s node found) section_is named))
ends_there d listed are j section node (Err fault) low section_is node_is named = tt

-- the slacks of a graph are those of its design
pub timed_is : (d : Design) (listed : Listed) (found : Slacks) (answer : Sta) → IsListedGraph d listed → IsTimedGraph listed.graph found → answer.worst ≡ found.worst
    → IsEndAt d listed found.end answer.end → AreNamed d found.nets answer.nets → IsTimed d answer
timed_is d listed found answer are timed worst end nets = record {
  accepted = are.accepted;
  nets = are.nets;
  graph = listed.graph;
  graph_of = are.graph_of;
  acyclic = timed.acyclic;
  worst = subst (IsLeast listed.graph) (sym worst) timed.worst;
  last = found.end;
  first_end = subst (λ (x : ℤ). IsFirstEnd listed.graph x found.end) (sym worst) timed.end;
  end = end are.nets are.graph_of are.nodes;
  names = nets.names;
  slacks = subst (AreSlacks listed.graph) (sym nets.slacks) timed.nets;
}
