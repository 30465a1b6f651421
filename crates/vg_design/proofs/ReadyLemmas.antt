-- A net on its way to a tree.
use Rattle.std.proofs.Common.{◌≡◌, ℕ, ◌<◌, Bool, true, false, ◌&&◌, ◌==◌, List, [], ◌∷◌, length, get_or, refl, sym, ap, ◌∙◌, subst, arith, inl, Option, Some, None, option_map}
use Rattle.std.proofs.lemmas.Bool.{eqb-true, false≢true}
use Rattle.std.proofs.lemmas.List.{get_or-map, get_or_default, length-map}
use Rattle.std.proofs.lemmas.List.Elements.{All-filter, All-same}
use Rattle.std.proofs.lemmas.List.Folds.{Any-from_list_any}
use Rattle.std.proofs.lemmas.Option.{slice_get_within, get_or_from_slice_get}
use Rattle.std.specs.List.{find, list_any, slice_get}
use Rattle.spef_net.proofs.NetLemmas.{conns_within}
use Rattle.spef_nodes.proofs.NodeListLemmas.{same_is}
use Rattle.spef_net.specs.declared.net.ParConn.{ParConn}
use Rattle.spef_net.specs.declared.net.ParNet.{ParNet}
use Rattle.ver_module.specs.Netlists.{Instance, Netlist, Pin}
use Rattle.ver_module.specs.declared.link.Link.TheVariants.{One}
use Rattle.spef_nodes.specs.Members.{node_named}
use Rattle.ver_net.proofs.LawLemmas.{pins_are_linked}
use Rattle.ver_net.specs.Connections.{pins_on}
use Rattle.ver_net.specs.declared.pin_ref.PinRef.{PinRef}
use Rattle.vg_scan.specs.Nodes.{same_node}
use Rattle.spef_wire.specs.Refusals.{drives, drivers_of, is_sink, PassesUpTo as PassesWire}
use Rattle.spef_wire.specs.declared.refusal.Refusal.TheVariants.{NoSink}
use Rattle.spef_wire.specs.Wires.{is_sink_node, AreMarks}
use Rattle.vg_design.proofs.ConnectedLemmas.{found_is}
use Rattle.vg_design.proofs.EndLemmas.{conn_node, end_is, ends_size}
use Rattle.vg_design.specs.Designs.{Design, Joined, NO_INSTANCE, NO_PIN, cell_on, ends_of, instance_at, name_of, pin_name, pin_on, IsConnected}
use Rattle.vg_design.specs.Steps.{ArePins, FindsPins, IsPin, pin_at, pin_names}

-- the driver is a connection
pub driver_within : (net : ParNet) (driver : ParConn) → drivers_of net ≡ driver ∷ [] → driver.node < length net.conns
driver_within net driver alone =
    All-same (λ (conn : ParConn). conn.node < length net.conns) (driver ∷ []) (drivers_of net) (sym alone)
    (All-filter drives (λ (conn : ParConn). conn.node < length net.conns) net.conns (λ k e h. let at = conn_node net k e h in omega (arith, at, h))) 0 driver (omega arith)

-- a node that is marked as a sink's is a connection
pub sink_within : (net : ParNet) (v : ℕ) → is_sink_node net v ≡ true → v < length net.conns
sink_within net v marked =
    let (k, conn, low, is, sink) = Any-from_list_any (λ (c : ParConn). is_sink c && (c.node == v)) net.conns marked in
    let same : conn.node ≡ v = eqb-true conn.node v (second (is_sink conn) (conn.node == v) sink) in
    let number : conn.node ≡ k = ap (λ (c : ParConn). c.node) (sym is) ∙ conn_node net k conn low in
    omega (arith, low, same, number)
  where
    second : (a b : Bool) → (a && b) ≡ true → b ≡ true
    second true b e = e
    second false b e = absurd (cc)

pub marked_within : (net : ParNet) (marks : List Bool) (v : ℕ) → AreMarks net marks → get_or marks v false ≡ true → v < length net.conns
marked_within net marks v are e = sink_within net v (sym (are.each v) ∙ e)

module _ (d : Design) (n : Joined) (pins : List (Option PinRef)) (at : ℕ) (are : ArePins d n pins) (h : at < length n.par.conns) where
  -- the pin of a connection
  pub pin_is : pin_at pins at ≡ pin_on d.netlist n.id (name_of n.par at)
  pin_is =
      let size = ends_size n.par in
      ap (λ (xs : List (Option PinRef)). pin_at xs at) are
      ∙ get_or-map (pin_on d.netlist n.id) (ends_of n.par) at (name_of n.par at) None (omega (arith, h, size))
      ∙ ap (pin_on d.netlist n.id) (end_is n.par at (name_of n.par at) h)

  pub cell_none : pin_at pins at ≡ None → cell_on d.netlist n.id (name_of n.par at) ≡ None
  cell_none e = ap (option_map (λ pin. (instance_at d.netlist pin).cell)) (sym pin_is ∙ e)

  module _ (pin : PinRef) (e : pin_at pins at ≡ Some pin) where
    -- it is a pin of the netlist
    pub is_pin : IsPin d.netlist pin
    is_pin =
        let f = found_is (λ p. same_node (name_of n.par at) (pin_name d.netlist p)) (pins_on d.netlist n.id) pin (sym pin_is ∙ e) in
        (One n.id, (pins_are_linked d.netlist n.id pin).0 (f.place, f.low, f.is))

    pub cell_some : (i : Instance) → slice_get d.netlist.instances pin.instance ≡ Some i → cell_on d.netlist n.id (name_of n.par at) ≡ Some i.cell
    cell_some i is =
        ap (option_map (λ pin. (instance_at d.netlist pin).cell)) (sym pin_is ∙ e)
        ∙ ap (λ (x : Instance). Some x.cell) (get_or_from_slice_get d.netlist.instances pin.instance i NO_INSTANCE is)

-- ---- pins of the netlist

pub instance_within : (m : Netlist) (at : PinRef) → IsPin m at → at.instance < length m.instances
instance_within m at (_, link) = slice_get_within m.instances at.instance link.instance link.is_instance

some_is : {X : Type 0} (a b : X) → Some a ≡ Some b → a ≡ b
some_is a b e = cc

pub pin_inside : (m : Netlist) (at : PinRef) (i : Instance) → IsPin m at → slice_get m.instances at.instance ≡ Some i → at.pin < length i.pins
pin_inside m at i (_, link) is =
    let same : link.instance ≡ i = some_is link.instance i (sym link.is_instance ∙ is) in
    subst (λ (x : Instance). at.pin < length x.pins) same (slice_get_within link.instance.pins at.pin link.pin link.is_pin)

-- the name of a pin
pub pin_named : (m : Netlist) (at : PinRef) (i : Instance) (p : Pin) → slice_get m.instances at.instance ≡ Some i → slice_get i.pins at.pin ≡ Some p → node_named i.name p.name ≡ pin_name m at
pin_named m at i p is own =
    let instance = get_or_from_slice_get m.instances at.instance i NO_INSTANCE is in
    let pin = get_or_from_slice_get i.pins at.pin p NO_PIN own in
    (λ k. record { owner = i.name; leaf = (sym pin k).name })
    ∙ (λ k. record { owner = (sym instance k).name; leaf = (get_or (sym instance k).pins at.pin NO_PIN).name })

-- a pin on a net is one of the netlist
pub pin_on_net : (m : Netlist) (id i : ℕ) (d : PinRef) → i < length (pins_on m id) → IsPin m (get_or (pins_on m id) i d)
pin_on_net m id i d h = (One id, (pins_are_linked m id (get_or (pins_on m id) i d)).0 (i, h, get_or_default (pins_on m id) i (get_or (pins_on m id) i d) d h))

-- ---- towards the tree

-- a connection that is found is at a node
pub found_within : (net : ParNet) (p : ParConn → Bool) (conn : ParConn) → find p net.conns ≡ Some conn → conn.node < length net.nodes
found_within net p conn e = let f = found_is p net.conns conn e in subst (λ (c : ParConn). c.node < length net.nodes) f.is (conns_within net f.place conn f.low)

-- where a pin on the net is no connection, the ends are not the same
pub not_connected : (d : Design) (n : Joined) → FindsPins d n None → IsConnected d.netlist n.id n.par → ⊥
not_connected d n (at, here, none) connected =
    let (k, pin, low, is, same) = Any-from_list_any (same_node at) (pin_names d n) here in
    let size = length-map (pins_on d.netlist n.id) (pin_name d.netlist) in
    let ref : PinRef = get_or (pins_on d.netlist n.id) k NO_REF in
    let within : k < length (pins_on d.netlist n.id) = omega (arith, low, size) in
    let name : at ≡ pin_name d.netlist ref = same_is at pin same ∙ sym is ∙ get_or-map (pin_name d.netlist) (pins_on d.netlist n.id) k NO_REF pin within in
    let link = (pins_are_linked d.netlist n.id ref).0 (k, within, get_or_default (pins_on d.netlist n.id) k ref NO_REF within) in
    false≢true (sym none ∙ (connected.same at).1 (inl (record { pin = ref; link = link; named = name })))
  where
    NO_REF : PinRef
    NO_REF = record { instance = 0; pin = 0 }

-- a net with a tree has a sink
pub sink_there : (net : ParNet) → PassesWire 15 net → list_any is_sink net.conns ≡ true
sink_there net passes = by_sink (list_any is_sink net.conns) refl
  where
    by_sink : (b : Bool) → list_any is_sink net.conns ≡ b → list_any is_sink net.conns ≡ true
    by_sink true e = e
    by_sink false e = absurd (passes NoSink (omega arith) e)

pub none_there : {X : Type 0} (P : Option X → Type 0) (o : Option X) → ((x : X) → o ≡ Some x → ⊥) → P o → P None
none_there P None never p = p
none_there P (Some x) never p = absurd (never x refl)
