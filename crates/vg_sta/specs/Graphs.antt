-- The nets of a design as a graph: which sinks lead on to which nets, and how late a signal is at each sink.
-- Source: R. B. Hitchcock, "Timing verification and the timing analysis program", Design Automation Conference 1982.
use Rattle.std.specs.Prelude.{◌≡◌, ◌↔◌, ℕ, ◌+◌, ◌<◌, List, [], ◌∷◌, ◌++◌, length, map, slice_index_or, ℤ, pos, Option, Some, option_and_then, unwrap_or}
use Rattle.std.specs.List.{All, Contains, flat_map, slice_get}
use Rattle.elmore.specs.Placed.{driven_delay}
use Rattle.lib_linear.specs.Libraries.{related_to}
use Rattle.name_tables.specs.Distinct.{number_of}
use Rattle.sta_graph.specs.Paths.{IsGraph, LeadsTo}
use Rattle.sta_graph.specs.declared.graph.Graph.{Graph}
use Rattle.sta_graph.specs.declared.graph.Sink.{Sink}
use Rattle.ver_module.specs.declared.link.Link.TheVariants.{One}
use Rattle.ver_net.specs.Laws.{HasLink}
use Rattle.ver_net.specs.declared.pin_ref.PinRef.{PinRef}
use Rattle.vg_cons.specs.Rows.{required_of}
use Rattle.vg_scan.specs.declared.name.NodeName.{NodeName}
use Rattle.vg_design.specs.Designs.{Design, NO_NODE, instance_at, net_names, net_number, pin_name, pin_on}
use Rattle.vg_design.specs.Nets.{name_at, IsBareNet}
use Rattle.vg_design.specs.declared.bare_parts.BareNet.{BareNet}

-- the section of the net of this number in the netlist, by its place in the order of the SPEF file, if it has one
abbrev pub section_of : Design → ℕ → Option ℕ
section_of d id = option_and_then (λ net. number_of (net_names d.spef) net.name) (slice_get d.netlist.nets id)

-- A sink: the name of its net, and its own.
pub record SinkPlace : Type 0 where
  pub net : List ℕ
  pub at : NodeName

-- past the last sink there is none
abbrev pub NO_PLACE : SinkPlace
NO_PLACE = record { net = []; at = NO_NODE.name }

-- The sink is a pin of an instance, and leads to the net of section v: an output pin of the instance names it as
-- related, and is linked to that one net.
pub record Leads (d : Design) (sink : SinkPlace) (v : ℕ) : Type 0 where
  pub from : ℕ
  pub is_from : net_number d.netlist sink.net ≡ Some from
  pub input : PinRef
  pub is_input : pin_on d.netlist from sink.at ≡ Some input
  pub output : PinRef
  pub instance : output.instance ≡ input.instance
  pub related : Contains
      (related_to d.library (instance_at d.netlist output).cell (pin_name d.netlist output).leaf) sink.at.leaf
  pub to : ℕ
  pub linked : HasLink d.netlist output (One to)
  pub section : section_of d to ≡ Some v

-- A net of the SPEF file and its name.
pub record NamedNet : Type 0 where
  pub name : List ℕ
  pub net : BareNet

-- the delay from the driver's input to a node of the tree, without cells (zs)
abbrev pub bare_delay : BareNet → ℕ → ℤ
bare_delay net u = driven_delay net.driver net.tree.nodes [] [] u

-- The sink at a node of the tree of the net of section v. Where no time is required it has 0 here: then it leads on,
-- and no path reads it.
abbrev pub sink_of : Design → ℕ → BareNet → ℕ → Sink
sink_of d v net u = record {
  net = v;
  delay = bare_delay net u;
  required = unwrap_or (required_of d.rows (name_at net.names u)) (pos 0);
}

-- the sinks of nets, net by net, of each in tree order, where the first net is that of section v
unfoldable pub sinks_from : Design → ℕ → List NamedNet → List Sink
sinks_from d v [] = []
sinks_from d v (n ∷ nets) = map (sink_of d v n.net) n.net.sinks ++ sinks_from d (v + 1) nets

-- the same sinks by their names
abbrev pub places_in : NamedNet → List SinkPlace
places_in n = map (λ u. record { net = n.name; at = name_at n.net.names u }) n.net.sinks

abbrev pub places_of : List NamedNet → List SinkPlace
places_of nets = flat_map places_in nets

abbrev pub place_at : List NamedNet → ℕ → SinkPlace
place_at nets j = slice_index_or (places_of nets) j NO_PLACE

-- These are the nets of the SPEF file, in its order, none of which is refused by itself, and this is their graph: the
-- nets stand in the order of the file, the sinks net by net, of each in tree order.
pub record IsGraphOf (d : Design) (nets : List NamedNet) (g : Graph) : Type 0 where
  pub names : map (λ n. n.name) nets ≡ net_names d.spef
  pub each : All (λ n. IsBareNet d n.name n.net) nets
  pub a_graph : IsGraph g
  pub arrivals : g.arrivals ≡ map (λ n. n.net.driver.arrival) nets
  pub sinks : g.sinks ≡ sinks_from d 0 nets
  pub leads : (j v : ℕ) → j < length g.sinks → LeadsTo g j v ↔ Leads d (place_at nets j) v
