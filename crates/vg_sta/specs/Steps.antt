-- The lists of a graph while they grow: for the functions between.
use Rattle.std.specs.Prelude.{◌≡◌, ◌↔◌, ℕ, ◌+◌, ◌<◌, ◌≤◌, ◌^◌, ◌||◌, Bool, true, false, List, [], ◌∷◌, ◌++◌, length, map, filter, take, slice_index, slice_index_or, is_some, pos, Option, Some, None, unwrap_or, IfSome}
use Rattle.std.specs.List.{All, Contains, flat_map, list_any, range_with_len}
use Rattle.std.specs.Str.{bytes_eq}
use Rattle.sta_graph.specs.declared.graph.Lead.{Lead}
use Rattle.sta_graph.specs.declared.graph.Sink.{Sink}
use Rattle.ver_net.specs.declared.pin_ref.PinRef.{PinRef}
use Rattle.spef_wire.specs.declared.refusal.Refusal.{Refusal}
use Rattle.vg_design.specs.Designs.{Design, net_names}
use Rattle.vg_design.specs.Nets.{name_at, IsBareNet}
use Rattle.vg_design.specs.declared.bare_parts.BareNet.{BareNet}
use Rattle.vg_sta.specs.Graphs.{Leads, NamedNet, NO_PLACE, SinkPlace, bare_delay, places_of, sinks_from}
use Rattle.vg_sta.specs.Outputs.{Onward}
use Rattle.vg_sta.specs.Timings.{IsRefused}
use Rattle.spef_wire.specs.declared.refusal.Refused.{Refused}
use Rattle.spef_wire.specs.declared.refusal.Refused.TheVariants.{Net as NetRefused, Memory as RefusedMemory}
use Rattle.vg_sta.specs.declared.answer.StaFault.{StaFault}
use Rattle.vg_sta.specs.declared.answer.StaFault.TheVariants.{Net as NetFault, Memory as MemoryFault}
use Rattle.vg_sta.specs.declared.build.Lists.{Lists}

-- ---- leads

-- an output names a pin as related
abbrev pub names_pin : List ℕ → Onward → Bool
names_pin pin output = list_any (bytes_eq pin) output.related

-- the leads of sink j, a pin of an instance with these outputs
abbrev pub leads_by : List Onward → List ℕ → ℕ → List Lead
leads_by outputs pin j = map (λ o. record { sink = j; net = o.section }) (filter (names_pin pin) outputs)

-- the outputs of the instance of a pin; a port has none
abbrev pub outputs_at : List (List Onward) → Option PinRef → List Onward
outputs_at outputs None = []
outputs_at outputs (Some pin) = slice_index_or outputs pin.instance []

-- of the i-th sink of a net its pin, and the pin's name
abbrev pub pin_of : BareNet → ℕ → Option PinRef
pin_of net i = slice_index_or net.pins i None

abbrev pub leaf_of : BareNet → ℕ → List ℕ
leaf_of net i = (name_at net.names (slice_index net.sinks i)).leaf

-- the leads of the i-th sink of a net, which is sink j
abbrev pub leads_at : List (List Onward) → BareNet → ℕ → ℕ → List Lead
leads_at outputs net i j = leads_by (outputs_at outputs (pin_of net i)) (leaf_of net i) j

-- the i-th sink of the net of section v
abbrev pub sink_at : ℕ → BareNet → ℕ → Sink
sink_at v net i = record {
  net = v;
  delay = bare_delay net (slice_index net.sinks i);
  required = unwrap_or (slice_index_or net.required i None) (pos 0);
}

-- it leads on, or a time is required there
abbrev pub is_bound : List (List Onward) → BareNet → ℕ → Bool
is_bound outputs net i =
    list_any (names_pin (leaf_of net i)) (outputs_at outputs (pin_of net i))
    || is_some (slice_index_or net.required i None)

-- the pins of the sinks are those of instances that have outputs here
abbrev pub AreWithin : List (List Onward) → BareNet → Type 0
AreWithin outputs net = All (λ pin. IfSome pin (λ p. p.instance < length outputs)) net.pins

-- ---- the lists

-- no list is too long to be held
pub record AreFew (lists : Lists) : Type 0 where
  pub sinks : length lists.sinks.items ≤ 2 ^ 30
  pub leads : length lists.leads.items ≤ 2 ^ 30

-- the i-th sink of the net of section v has come, with its leads
pub record IsSinkAdded (outputs : List (List Onward)) (v : ℕ) (net : BareNet) (i : ℕ) (old new : Lists) : Type 0 where
  pub arrivals : new.arrivals.items ≡ old.arrivals.items
  pub sinks : new.sinks.items ≡ old.sinks.items ++ sink_at v net i ∷ []
  pub nodes : new.nodes.items ≡ old.nodes.items ++ slice_index net.sinks i ∷ []
  pub leads : new.leads.items ≡ old.leads.items ++ leads_at outputs net i (length old.sinks.items)
  pub few : AreFew new

-- the first k sinks of the net of section v have come, with their leads, and each leads on or has a required time
pub record AreAdded (outputs : List (List Onward)) (v : ℕ) (net : BareNet) (k : ℕ) (old new : Lists) : Type 0 where
  pub arrivals : new.arrivals.items ≡ old.arrivals.items
  pub sinks : new.sinks.items ≡ old.sinks.items ++ map (sink_at v net) (range_with_len 0 k)
  pub nodes : new.nodes.items ≡ old.nodes.items ++ take k net.sinks
  pub leads : new.leads.items
      ≡ old.leads.items ++ flat_map (λ i. leads_at outputs net i (length old.sinks.items + i)) (range_with_len 0 k)
  pub few : AreFew new
  pub bound : (i : ℕ) → i < k → is_bound outputs net i ≡ true

-- the first sink, by its node, that neither leads on nor has a required time
pub record IsFirstFree (outputs : List (List Onward)) (net : BareNet) (node : ℕ) : Type 0 where
  pub place : ℕ
  pub low : place < length net.sinks
  pub is : node ≡ slice_index net.sinks place
  pub free : is_bound outputs net place ≡ false
  pub first : (i : ℕ) → i < place → is_bound outputs net i ≡ true

-- there is one; or all sinks of the net of section v have come
abbrev pub FindsFree : List (List Onward) → ℕ → BareNet → Lists → Lists → Option ℕ → Type 0
FindsFree outputs v net old new None = AreAdded outputs v net (length net.sinks) old new
FindsFree outputs v net old new (Some node) = IsFirstFree outputs net node

-- these are exactly the leads of sinks with these names, by their numbers
pub record AreLeads (d : Design) (places : List SinkPlace) (leads : List Lead) : Type 0 where
  pub low : All (λ l. l.sink < length places) leads
  pub right : (j v : ℕ) → j < length places
      → Contains leads (record { sink = j; net = v }) ↔ Leads d (slice_index_or places j NO_PLACE) v

-- the first n nets of the SPEF file have come, and none of them is refused
pub record AreListed (d : Design) (n : ℕ) (lists : Lists) : Type 0 where
  pub nets : List NamedNet
  pub names : map (λ n. n.name) nets ≡ take n (net_names d.spef)
  pub each : All (λ n. IsBareNet d n.name n.net) nets
  pub accepted : (name : List ℕ) (refusal : Refusal) → Contains (take n (net_names d.spef)) name
      → IsRefused d name refusal → ⊥
  pub arrivals : lists.arrivals.items ≡ map (λ n. n.net.driver.arrival) nets
  pub sinks : lists.sinks.items ≡ sinks_from d 0 nets
  pub nodes : lists.nodes.items ≡ flat_map (λ n. n.net.sinks) nets
  pub leads : AreLeads d (places_of nets) lists.leads.items
  pub few : AreFew lists

-- the fault of a design whose net of this name is refused by itself
abbrev pub fault_by : List ℕ → Refused → StaFault
fault_by name (NetRefused refusal) = NetFault name refusal
fault_by name RefusedMemory = MemoryFault
