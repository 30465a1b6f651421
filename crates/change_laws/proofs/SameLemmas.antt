-- A net of a new design that is as it was: nothing refuses it that did not before, and it has the same problem.
use Rattle.std.proofs.Common.{◌≡◌, ℕ, ◌+◌, ◌&&◌, not, Bool, true, List, length, map, sym, ◌∙◌, subst, pos, inl, inr}
use Rattle.std.specs.Prelude.{if◌then◌else◌, is_none, option_and_then, slice_index, unwrap_or}
use Rattle.std.specs.List.{All, range_with_len}
use Rattle.elmore.specs.Problems.{IsProblemWithin, places as places_of}
use Rattle.elmore.specs.Trees.{node_at as tree_node}
use Rattle.elmore.specs.declared.parts.Driver.{Driver}
use Rattle.elmore.specs.declared.problem.Problem.{Problem}
use Rattle.elmore.specs.declared.tree.Node.{Node}
use Rattle.lib_linear.specs.Libraries.{cap_of, drive_in, limit_of}
use Rattle.spef_net.specs.declared.net.ParConn.{ParConn}
use Rattle.ver_module.specs.Netlists.{Netlist}
use Rattle.vg_cons.specs.Rows.{arrival_of, load_of}
use Rattle.vg_design.specs.Designs.{Design, IsConnected, Joined, agrees, driver_at, is_port, name_of, pin_cap_of, pin_drive_of, pin_limit_of, port_driver, sink_load}
use Rattle.vg_design.specs.Parts.{IsProblemOf, IsWithinLimits, driver_of, free_of, load_at, loaded_tree, places_in, reps_of, sinks_of}
use Rattle.vg_design.specs.Refusals.{Holds, IsFirstConn, is_unloaded}
use Rattle.change_netlist_laws.specs.Others.{IsAsItWas}
use Rattle.vg_scan.specs.declared.name.NodeName.{NodeName}
use Rattle.spef_wire.specs.Refusals.{is_sink}
use Rattle.spef_wire.specs.Wires.{is_sink_node}
use Rattle.spef_wire.specs.declared.refusal.Refusal.{Refusal}
use Rattle.spef_wire.specs.declared.refusal.Refusal.TheVariants.{UnknownNet, Section, Reduced, Inductive, Bidirectional, NoDriver, ManyDrivers, Mismatch, Tied, NoDrive, NoLoad, Floating, Loop, NoSink, Unconstrained, TooLarge}

module _ (d : Design) (n : Joined) (spef : List ℕ) (netlist : Netlist) (now : ℕ) (was : IsAsItWas d.netlist n.id netlist now) where
  -- the new design, and the net in it
  abbrev e : Design
  e = record { spef = spef; library = d.library; netlist = netlist; rows = d.rows }

  abbrev m : Joined
  m = record { par = n.par; id = now }

  -- ---- what the library gives

  same_cap : (at : NodeName) → pin_cap_of e m at ≡ pin_cap_of d n at
  same_cap at = λ i. option_and_then (λ cell. cap_of d.library cell at.leaf) (was.cells at i)

  same_drive : (at : NodeName) → pin_drive_of e m at ≡ pin_drive_of d n at
  same_drive at = λ i. option_and_then (λ cell. drive_in d.library cell at.leaf) (was.cells at i)

  same_limit : (at : NodeName) → pin_limit_of e m at ≡ pin_limit_of d n at
  same_limit at = λ i. option_and_then (λ cell. limit_of d.library cell at.leaf) (was.cells at i)

  same_sink : (at : NodeName) → sink_load e m at ≡ sink_load d n at
  same_sink at = λ i. if is_port at then load_of d.rows at.owner else unwrap_or (same_cap at i) 0

  same_driver : (at : NodeName) → driver_at e m at ≡ driver_at d n at
  same_driver at = λ i.
      if is_port at then port_driver d.rows at
      else record {
        k = pos (unwrap_or (same_drive at i) (0, 0)).0;
        r = (unwrap_or (same_drive at i) (0, 0)).1;
        arrival = arrival_of d.rows at;
        limit = same_limit at i;
      }

  -- ---- its parts

  same_load : (v : ℕ) → load_at e m v ≡ load_at d n v
  same_load v = λ i. if is_sink_node n.par v then same_sink (name_of n.par v) i else 0

  same_tree : (tree : List Node) (order : List ℕ) → loaded_tree e m tree order ≡ loaded_tree d n tree order
  same_tree tree order = λ i.
      map (λ k. record (tree_node tree k) { c = (tree_node tree k).c + same_load (slice_index order k) i }) (range_with_len 0 (length tree))

  same_places : (tree : List Node) (order : List ℕ) → places_in e m tree order ≡ places_in d n tree order
  same_places tree order = λ i. places_of (same_tree tree order i) (sinks_of d.rows n.par order) (free_of d.rows n.par order)

  pub problem_stays : (tree : List Node) (order : List ℕ) (p : Problem) → IsProblemOf d n tree order p → IsProblemOf e m tree order p
  problem_stays tree order p is = record {
    tree_is = is.tree_is ∙ sym (same_tree tree order);
    driver = is.driver ∙ sym (same_driver (name_of n.par (slice_index order 0)));
    sinks = is.sinks;
    places = is.places ∙ sym (same_places tree order);
    reps = is.reps;
    allowed = is.allowed;
  }

  limits_back : (tree : List Node) (order : List ℕ) → IsWithinLimits d n tree order → IsWithinLimits e m tree order
  limits_back tree order is = record {
    cap_lines = is.cap_lines;
    sums =
        subst (λ (t : List Node). IsProblemWithin t (driver_of e m order) (sinks_of d.rows n.par order) (places_in e m tree order) (reps_of d.library.repeaters)) (sym (same_tree tree order))
        (subst (λ (r : Driver). IsProblemWithin (loaded_tree d n tree order) r (sinks_of d.rows n.par order) (places_in e m tree order) (reps_of d.library.repeaters))
        (sym (same_driver (name_of n.par (slice_index order 0))))
        (subst (λ (bs : List Bool). IsProblemWithin (loaded_tree d n tree order) (driver_of d n order) (sinks_of d.rows n.par order) bs (reps_of d.library.repeaters))
        (sym (same_places tree order)) is.sums));
  }

  -- ---- its refusals

  same_unloaded : is_unloaded e m ≡ is_unloaded d n
  same_unloaded = λ i (conn : ParConn). is_sink conn && (not (is_port (name_of n.par conn.node)) && is_none (same_cap (name_of n.par conn.node) i))

  connected : IsConnected d.netlist n.id n.par → IsConnected netlist now n.par
  connected is = record {
    same = λ at. (λ there. (was.ends at).1 ((is.same at).0 there), λ end. (is.same at).1 ((was.ends at).0 end));
    direction = subst (λ port. All (λ (conn : ParConn). agrees port conn.kind conn.direction ≡ true) n.par.conns) (sym was.port) is.direction;
  }

  pub held_before : (r : Refusal) → Holds e m r → Holds d n r
  held_before UnknownNet h = absurd h
  held_before (Section fault) h = absurd h
  held_before Reduced h = h
  held_before Inductive h = h
  held_before Bidirectional (inl both) = inl both
  held_before Bidirectional (inr both) = inr (sym was.port ∙ both)
  held_before NoDriver h = h
  held_before ManyDrivers h = h
  held_before Mismatch h = λ is. h (connected is)
  held_before Tied h = sym was.tied ∙ h
  held_before NoDrive h = record { driver = h.driver; alone = h.alone; pin = h.pin; none = sym (same_drive (name_of n.par h.driver.node)) ∙ h.none }
  held_before (NoLoad at) h = subst (λ (kind : ParConn → Bool). IsFirstConn n.par kind at) same_unloaded h
  held_before (Floating at) h = h
  held_before Loop h = h
  held_before NoSink h = h
  held_before (Unconstrained at) h = h
  held_before TooLarge h = record { tree = h.tree; order = h.order; a_tree = h.a_tree; past = λ within. h.past (limits_back h.tree h.order within) }
