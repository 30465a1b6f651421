-- The lists of a design are its graph, within the limits of a timing.
use Rattle.std.proofs.Common.{◌≡◌, ℕ, zero, suc, ◌+◌, ◌*◌, ◌^◌, ◌<◌, ◌≤◌, List, [], ◌∷◌, map, take, length, get_or, slice_get, refl, sym, ap, ◌∙◌, subst, arith, Option, Some, None, option_and_then, unwrap_or, ℤ, pos, ◌+ℤ◌, ◌≤ℤ◌}
use Rattle.std.specs.List.{All, Contains}
use Rattle.std.specs.Str.{bytes_eq}
use Rattle.std.proofs.Math.Nat.{mul-le-mul}
use Rattle.std.proofs.lemmas.Int.{ints}
use Rattle.std.proofs.lemmas.List.{get_or_append_left, get_or-append-add, get_or_default, get_or-map, length-append, length-map, take_all}
use Rattle.std.proofs.lemmas.List.Elements.{All-append, All-head, All-map, All-tail, Contains-get_or}
use Rattle.std.proofs.lemmas.List.Quantifiers.{position-Some}
use Rattle.name_tables.specs.Distinct.{number_of}
use Rattle.ver_module.specs.Netlists.{Net}
use Rattle.elmore.specs.Cells.{cell_at}
use Rattle.elmore.specs.Placed.{placed_delay, placed_load}
use Rattle.elmore.specs.Problems.{IsSmall as IsSmallTime}
use Rattle.elmore.specs.Trees.{capacitance, parent_of, resistance, total_capacitance}
use Rattle.elmore.specs.Wire.{delay_in}
use Rattle.elmore.proofs.TreeLemmas.{root_load, small_delay}
use Rattle.elmore.proofs.WireLemmas.{bare_load, bare_delay as wire_alone}
use Rattle.sta_graph.specs.Passes.{IsSmall, IsWithin}
use Rattle.sta_graph.specs.Paths.{IsGraph, LeadsTo, lead_at, net_count, owner}
use Rattle.sta_graph.specs.declared.graph.Graph.{Graph}
use Rattle.sta_graph.specs.declared.graph.Lead.{Lead}
use Rattle.sta_graph.specs.declared.graph.Sink.{Sink}
use Rattle.vg_cons.specs.Rows.{required_of}
use Rattle.vg_design.specs.Designs.{Design, net_names}
use Rattle.vg_design.specs.Nets.{name_at, IsBareNet}
use Rattle.vg_design.specs.declared.bare_parts.BareNet.{BareNet}
use Rattle.vg_sta.specs.Delays.{AreDelays}
use Rattle.vg_sta.specs.Ends.{IsListedGraph}
use Rattle.vg_sta.specs.Graphs.{NamedNet, bare_delay, places_of, section_of, sink_of, sinks_from, IsGraphOf}
use Rattle.vg_sta.specs.Steps.{AreLeads, AreListed}
use Rattle.vg_sta.specs.declared.build.Lists.{Lists}
use Rattle.vg_sta.specs.declared.timing.Listed.{Listed}
use Rattle.vg_sta.proofs.AddLemmas.{one_place_each}

abbrev pub NO_SINK : Sink
NO_SINK = record { net = 0; delay = pos 0; required = pos 0 }

-- ---- delays

load_is : (net : BareNet) → placed_load net.tree.nodes [] [] 0 ≡ total_capacitance net.tree.nodes
load_is net =
    bare_load (parent_of net.tree.nodes) (capacitance net.tree.nodes) (cell_at [] []) (λ u. refl) (length net.tree.nodes) 0
    ∙ root_load net.tree.nodes net.tree.a_tree

wire_is : (net : BareNet) (u : ℕ) → placed_delay net.tree.nodes [] [] 0 u ≡ delay_in net.tree.nodes u
wire_is net u = wire_alone (parent_of net.tree.nodes) (resistance net.tree.nodes) (capacitance net.tree.nodes) (cell_at [] []) (λ u. refl) (length net.tree.nodes) u

sum_is : (k : ℤ) (a b : ℕ) → ((k +ℤ pos a) +ℤ pos b) ≡ (k +ℤ pos (a + b))
sum_is k a b = omega (arith, ints)

-- without cells a node is as late as its driver and its wire make it
pub delay_is : (net : BareNet) (driven : ℤ) (delays : List ℤ) (u : ℕ) → AreDelays net driven delays → u < length net.tree.nodes → (driven +ℤ get_or delays u (pos 0)) ≡ bare_delay net u
delay_is net driven delays u are low =
    (λ i. are.driver i +ℤ are.wire u low i)
    ∙ sum_is net.driver.k (net.driver.r * total_capacitance net.tree.nodes) (delay_in net.tree.nodes u)
    ∙ (λ i. net.driver.k +ℤ pos (net.driver.r * sym (load_is net) i + sym (wire_is net u) i))

small_sum : (k : ℤ) (r load delay : ℕ) → IsSmallTime k → r ≤ 10 ^ 9 → load ≤ 10 ^ 11 → delay ≤ 10 ^ 23 → IsWithin 1 (k +ℤ pos (r * load + delay))
small_sum k r load delay small r_small load_small delay_few =
    let low = small.low in
    let high = small.high in
    let driven : r * load ≤ 10 ^ 9 * 10 ^ 11 = mul-le-mul r_small load_small in
    record { low = omega (arith, ints, low); high = omega (arith, ints, high, driven, delay_few) }

pub delay_small : (net : BareNet) (u : ℕ) → u < length net.tree.nodes → IsWithin 1 (bare_delay net u)
delay_small net u low =
    small_sum net.driver.k net.driver.r (placed_load net.tree.nodes [] [] 0) (placed_delay net.tree.nodes [] [] 0 u) net.drives.k net.drives.r
    (subst (λ (n : ℕ). n ≤ 10 ^ 11) (sym (load_is net)) net.limits.capacitances)
    (subst (λ (n : ℕ). n ≤ 10 ^ 23) (sym (wire_is net u)) (small_delay net.tree.nodes net.tree.a_tree net.limits u low))

-- neither part of a delay is too large
pub driven_small : (net : BareNet) (driven : ℤ) (delays : List ℤ) → AreDelays net driven delays → IsWithin 1 driven
driven_small net driven delays are =
    subst (λ (z : ℤ). IsWithin 1 z) (ap (λ (n : ℕ). net.driver.k +ℤ pos n) (omega arith) ∙ sym are.driver)
    (small_sum net.driver.k net.driver.r (total_capacitance net.tree.nodes) 0 net.drives.k net.drives.r net.limits.capacitances (omega arith))

pub wire_small : (net : BareNet) (driven : ℤ) (delays : List ℤ) (u : ℕ) → AreDelays net driven delays → u < length net.tree.nodes → (pos 0 ≤ℤ get_or delays u (pos 0)) × (get_or delays u (pos 0) ≤ℤ pos (10 ^ 24))
wire_small net driven delays u are low =
    let few = small_delay net.tree.nodes net.tree.a_tree net.limits u low in
    subst (λ (z : ℤ). (pos 0 ≤ℤ z) × (z ≤ℤ pos (10 ^ 24))) (sym (are.wire u low)) (omega (arith, ints), omega (arith, ints, few))

-- ---- sinks

-- each sink is one of a net
sink_nets : (d : Design) (v : ℕ) (nets : List NamedNet) → All (λ s. s.net < v + length nets) (sinks_from d v nets)
unfolding sinks_from
sink_nets d v [] = λ k e low. omega (arith, low)
sink_nets d v (n ∷ nets) =
    All-append (λ s. s.net < v + length (n ∷ nets)) (map (sink_of d v n.net) n.net.sinks) (sinks_from d (v + 1) nets)
    (All-map (λ s. s.net < v + length (n ∷ nets)) (sink_of d v n.net) n.net.sinks (λ k e low. omega arith))
    (λ k e low. let h = sink_nets d (v + 1) nets k e low in omega (arith, h))

-- and each net has one
net_sinks : (d : Design) (v : ℕ) (nets : List NamedNet) (k : ℕ) → k < length nets → (j : ℕ) × (j < length (sinks_from d v nets)) × ((get_or (sinks_from d v nets) j NO_SINK).net ≡ v + k)
unfolding sinks_from
net_sinks d v [] k low = absurd (omega (arith, low))
net_sinks d v (n ∷ nets) zero low =
    let some = n.net.some_sink in
    let own = length-map n.net.sinks (sink_of d v n.net) in
    let all = length-append (map (sink_of d v n.net) n.net.sinks) (sinks_from d (v + 1) nets) in (
      0,
      omega (arith, some, own, all),
      ap (λ (s : Sink). s.net) (get_or_append_left (map (sink_of d v n.net) n.net.sinks) (sinks_from d (v + 1) nets) NO_SINK 0 (omega (arith, some, own)) ∙ get_or-map (sink_of d v n.net) n.net.sinks 0 0 NO_SINK some) ∙ (omega arith),
    )
net_sinks d v (n ∷ nets) (suc k) low =
    let (j, within, is) = net_sinks d (v + 1) nets k (omega (arith, low)) in
    let all = length-append (map (sink_of d v n.net) n.net.sinks) (sinks_from d (v + 1) nets) in (
      length (map (sink_of d v n.net) n.net.sinks) + j,
      omega (arith, within, all),
      ap (λ (s : Sink). s.net) (get_or-append-add (map (sink_of d v n.net) n.net.sinks) (sinks_from d (v + 1) nets) j NO_SINK) ∙ is ∙ (omega arith),
    )

-- no delay and no required time is too large
pub record IsSmallSink (s : Sink) : Type 0 where
  pub delay : IsWithin 1 s.delay
  pub required : IsWithin 1 s.required

small_time : (z : ℤ) → IsSmallTime z → IsWithin 1 z
small_time z small = let low = small.low in let high = small.high in record { low = omega (arith, ints, low); high = omega (arith, ints, high) }

small_required : (o : Option ℤ) → ((time : ℤ) → o ≡ Some time → IsSmallTime time) → IsWithin 1 (unwrap_or o (pos 0))
small_required None small = record { low = omega (arith, ints); high = omega (arith, ints) }
small_required (Some time) small = small_time time (small time refl)

small_sink : (d : Design) (v : ℕ) (name : List ℕ) (net : BareNet) → IsBareNet d name net → All (λ s. IsSmallSink s) (map (sink_of d v net) net.sinks)
small_sink d v name net is = All-map (λ s. IsSmallSink s) (sink_of d v net) net.sinks (λ k e low. record {
  delay = delay_small net (get_or net.sinks k e) (net.within k e low);
  required = small_required (required_of d.rows (name_at net.names (get_or net.sinks k e))) (λ time at. net.times k time
      (ap (λ xs. get_or xs k None) is.required ∙ get_or-map (λ u. required_of d.rows (name_at net.names u)) net.sinks k e None low ∙ at));
})

small_sinks : (d : Design) (v : ℕ) (nets : List NamedNet) → All (λ n. IsBareNet d n.name n.net) nets → All (λ s. IsSmallSink s) (sinks_from d v nets)
unfolding sinks_from
small_sinks d v [] each = λ k e low. absurd (omega (arith, low))
small_sinks d v (n ∷ nets) each =
    All-append (λ s. IsSmallSink s) (map (sink_of d v n.net) n.net.sinks) (sinks_from d (v + 1) nets)
    (small_sink d v n.name n.net (All-head (λ n. IsBareNet d n.name n.net) n nets each))
    (small_sinks d (v + 1) nets (All-tail (λ n. IsBareNet d n.name n.net) n nets each))

-- ---- leads

-- a lead of the graph is one of its list
lead_in : (g : Graph) (j v : ℕ) → LeadsTo g j v → Contains g.leads (record { sink = j; net = v })
lead_in g j v to = (
  to.lead,
  to.number,
  get_or_default g.leads to.lead (record { sink = j; net = v }) (record { sink = 0; net = 0 }) to.number ∙ (λ i. record { sink = to.by i; net = to.to i }),
)

in_lead : (g : Graph) (j v : ℕ) → Contains g.leads (record { sink = j; net = v }) → LeadsTo g j v
in_lead g j v (k, low, at) =
    let is : lead_at g k ≡ record { sink = j; net = v } = get_or_default g.leads k (record { sink = 0; net = 0 }) (record { sink = j; net = v }) low ∙ at in
    record { lead = k; number = low; by = ap (λ (l : Lead). l.sink) is; to = ap (λ (l : Lead). l.net) is }

-- a section is one of the file
section_low : (d : Design) (to v : ℕ) → section_of d to ≡ Some v → v < length (net_names d.spef)
section_low d to v e = by_net (slice_get d.netlist.nets to) e
  where
    by_net : (net : Option Net) → option_and_then (λ n. number_of (net_names d.spef) n.name) net ≡ Some v → v < length (net_names d.spef)
    by_net None e = absurd (cc)
    by_net (Some net) e = (position-Some (bytes_eq net.name) (net_names d.spef) v [] e).0

-- ---- the whole

module _ (d : Design) (nets : List NamedNet) (g : Graph) (names : map (λ n. n.name) nets ≡ net_names d.spef) (each : All (λ n. IsBareNet d n.name n.net) nets)
    (arrivals : g.arrivals ≡ map (λ n. n.net.driver.arrival) nets) (sinks : g.sinks ≡ sinks_from d 0 nets) (leads : AreLeads d (places_of nets) g.leads) where
  count : net_count g ≡ length nets
  count = ap length arrivals ∙ length-map nets (λ n. n.net.driver.arrival)

  sections : length (net_names d.spef) ≡ length nets
  sections = sym (ap length names) ∙ length-map nets (λ n. n.name)

  places : length g.sinks ≡ length (places_of nets)
  places = ap length sinks ∙ one_place_each d 0 nets

  a_graph : IsGraph g
  a_graph = record {
    owners = λ j low.
        let some = count in
        let h = sink_nets d 0 nets j NO_SINK (subst (λ (xs : List Sink). j < length xs) sinks low) in
        let is : owner g j ≡ (get_or (sinks_from d 0 nets) j NO_SINK).net = ap (λ (xs : List Sink). (get_or xs j NO_SINK).net) sinks in
        omega (arith, h, is, some);
    lead_sinks = λ i low. let h = leads.low i (record { sink = 0; net = 0 }) low in let size = places in omega (arith, h, size);
    lead_nets = λ i low.
        let lead = lead_at g i in
        let here = leads.low i (record { sink = 0; net = 0 }) low in
        let l = (leads.right lead.sink lead.net here).0 (Contains-get_or g.leads i (record { sink = 0; net = 0 }) low) in
        let h = section_low d l.to lead.net l.section in
        let some = count in
        let all = sections in
        omega (arith, h, some, all);
    some_sink = λ v low.
        let some = count in
        let (j, within, is) = net_sinks d 0 nets v (omega (arith, low, some)) in
        (j, subst (λ (xs : List Sink). j < length xs) (sym sinks) within, ap (λ (xs : List Sink). (get_or xs j NO_SINK).net) sinks ∙ is ∙ (omega arith));
  }

  pub graph_is : IsGraphOf d nets g
  graph_is = record {
    names = names;
    each = each;
    a_graph = a_graph;
    arrivals = arrivals;
    sinks = sinks;
    leads = λ j v low. let here : j < length (places_of nets) = subst (λ (n : ℕ). j < n) places low in (
      λ to. (leads.right j v here).0 (lead_in g j v to),
      λ l. in_lead g j v ((leads.right j v here).1 l),
    );
  }

-- times are small
pub graph_small : (d : Design) (nets : List NamedNet) (g : Graph) → IsGraphOf d nets g → length (net_names d.spef) ≤ 2 ^ 30 → length g.sinks ≤ 2 ^ 30 → length g.leads ≤ 2 ^ 30 → IsSmall g
graph_small d nets g is few_nets few_sinks few_leads =
    let all = sym (ap length is.names) ∙ length-map nets (λ n. n.name) in
    let count = ap length is.arrivals ∙ length-map nets (λ n. n.net.driver.arrival) in
    let small : All (λ s. IsSmallSink s) g.sinks = subst (λ (xs : List Sink). All (λ s. IsSmallSink s) xs) (sym is.sinks) (small_sinks d 0 nets is.each) in
    let times : All (λ (z : ℤ). IsWithin 1 z) g.arrivals =
    subst (λ (xs : List ℤ). All (λ (z : ℤ). IsWithin 1 z) xs) (sym is.arrivals)
    (All-map (λ (z : ℤ). IsWithin 1 z) (λ (n : NamedNet). n.net.driver.arrival) nets (λ k e low. small_time (get_or nets k e).net.driver.arrival (get_or nets k e).net.drives.arrival)) in
    record {
      nets = omega (arith, few_nets, all, count);
      sinks = few_sinks;
      leads = few_leads;
      arrivals = λ v low. times v (pos 0) low;
      delays = λ j low. (small j NO_SINK low).delay;
      required = λ j low. (small j NO_SINK low).required;
    }

-- the lists of all nets are those of the graph
pub listed_is : (d : Design) (lists : Lists) (listed : Listed) → AreListed d (length (net_names d.spef)) lists → length (net_names d.spef) ≤ 2 ^ 30
    → listed.graph.arrivals ≡ lists.arrivals.items → listed.graph.sinks ≡ lists.sinks.items → listed.graph.leads ≡ lists.leads.items → listed.nodes.items ≡ lists.nodes.items
    → IsListedGraph d listed
listed_is d lists listed are few arrivals sinks leads nodes =
    let all : take (length (net_names d.spef)) (net_names d.spef) ≡ net_names d.spef = take_all (length (net_names d.spef)) (net_names d.spef) (omega arith) in
    record {
      accepted = λ name refusal in' refused. are.accepted name refusal (subst (λ (xs : List (List ℕ)). Contains xs name) (sym all) in') refused;
      nets = are.nets;
      graph_of = graph_is d are.nets listed.graph (are.names ∙ all) are.each (arrivals ∙ are.arrivals) (sinks ∙ are.sinks) (subst (λ (ls : List Lead). AreLeads d (places_of are.nets) ls) (sym leads) are.leads);
      nodes = nodes ∙ are.nodes;
      few_sinks = subst (λ (xs : List Sink). length xs ≤ 2 ^ 30) (sym sinks) are.few.sinks;
      few_leads = subst (λ (xs : List Lead). length xs ≤ 2 ^ 30) (sym leads) are.few.leads;
      few_nets = few;
    }
