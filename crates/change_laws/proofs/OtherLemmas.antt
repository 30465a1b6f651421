-- Nets into which no cells are put have the same problem in the new design.
use Rattle.std.proofs.Common.{◌≡◌, ◌≢◌, ℕ, ◌<◌, ◌||◌, true, List, [], ◌∷◌, length, filter, get_or, map, refl, sym, ap, ◌∙◌, subst, arith, inl, inr, Some, None, Option}
use Rattle.std.specs.Prelude.{slice_get}
use Rattle.std.specs.List.{Contains}
use Rattle.std.proofs.lemmas.List.{get_or_default}
use Rattle.std.proofs.lemmas.Option.{same_Some}
use Rattle.spef_net.specs.declared.net.ParConn.{ParConn}
use Rattle.spef_net.specs.declared.net.ParNet.{ParNet}
use Rattle.spef_nodes.proofs.NodeTableLemmas.{same_refl}
use Rattle.ver_module.specs.Netlists.{Net}
use Rattle.ver_module.specs.declared.direction.PortDir.{PortDir}
use Rattle.ver_net.proofs.LawLemmas.{pins_are_linked}
use Rattle.ver_net.specs.Connections.{pins_on}
use Rattle.ver_net.specs.declared.pin_ref.PinRef.{PinRef}
use Rattle.vg_change.proofs.PairLemmas.{of_all}
use Rattle.vg_change.proofs.RowLemmas.{name_is}
use Rattle.vg_change.specs.Placed.{PlacedNet}
use Rattle.change_spef_laws.proofs.ReadLemmas.{others_stay}
use Rattle.change_spef_laws.specs.Nets.{IsPlacedNet}
use Rattle.vg_design.proofs.NameLemmas.{passes_for}
use Rattle.vg_design.specs.Designs.{Design, IsConnected, IsEnd, Joined, NO_NODE, ends_of, name_of, net_number, pin_name}
use Rattle.vg_design.specs.Nets.{IsNetProblem, IsTimedOf}
use Rattle.vg_design.specs.Refusals.{Holds, IsJoined, PassesUpTo, Refuses}
use Rattle.vg_design.specs.declared.net_problem.NetProblem.{NetProblem}
use Rattle.design_read.proofs.LawLemmas.{one_is}
use Rattle.design_read.specs.Designs.{Texts}
use Rattle.change_netlist_laws.proofs.OldLemmas.{net_of_joined}
use Rattle.change_netlist_laws.proofs.OtherLemmas.{other_nets_stay}
use Rattle.change_netlist_laws.specs.Laws.{HasNetAsItWas}
use Rattle.vg_scan.specs.Comments.{without_comments}
use Rattle.vg_scan.specs.Nodes.{has_node}
use Rattle.vg_scan.specs.declared.comments.Comments.TheVariants.{Spef}
use Rattle.vg_scan.specs.declared.name.NodeName.{NodeName}
use Rattle.spef_wire.specs.Refusals.{drivers_of, drives}
use Rattle.spef_wire.specs.declared.refusal.Refusal.{Refusal}
use Rattle.spef_wire.specs.declared.refusal.Refusal.TheVariants.{UnknownNet, Section, Mismatch}
use Rattle.change_laws.proofs.DesignLemmas.{again, by, is_design, netlist, renewed, stages}
use Rattle.change_laws.proofs.SameLemmas.{held_before, problem_stays}
use Rattle.vg_retime.specs.Retimings.{Retimes}
use Rattle.vg_split.specs.Conditions.{IsOld}
use Rattle.vg_change.proofs.NameLemmas.{owners_old}
use Rattle.vg_change.specs.Taken.{taken}
use Rattle.change_spef_laws.proofs.ReplacedLemmas.{none_taken}
use Rattle.change_laws.proofs.BareLemmas.{bare_retimes}
use Rattle.change_laws.specs.Laws.{OtherNetsKeepProblems, OtherNetsKeepSlacks, OtherNetsRetime}
use Rattle.change_laws.specs.Written.{AreWrittenAnew}

-- ---- a net that is driven has an end

-- it has the name of its first connection
first_there : (par : ParNet) (conns : List ParConn) (driver : ParConn) → par.conns ≡ conns → drivers_of par ≡ driver ∷ [] → (at : NodeName) × (has_node (ends_of par) at ≡ true)
first_there par [] driver none alone = absurd (let h : [] ≡ driver ∷ [] = sym (ap (filter drives) none) ∙ alone in cc)
first_there par (c ∷ conns) driver some alone = (
  name_of par c.node,
  ap (λ (cs : List ParConn). has_node (map (λ (conn : ParConn). name_of par conn.node) cs) (name_of par c.node)) some
      ∙ (λ i. same_refl (name_of par c.node) i || has_node (map (λ (conn : ParConn). name_of par conn.node) conns) (name_of par c.node)),
)

module _ (d : Design) (n : Joined) (net : Net) (is : slice_get d.netlist.nets n.id ≡ Some net) (driver : ParConn) (alone : drivers_of n.par ≡ driver ∷ [])
    (agrees : (IsConnected d.netlist n.id n.par → ⊥) → ⊥) where
  some_end : (pins : List PinRef) → pins_on d.netlist n.id ≡ pins → (port : Option PortDir) → net.port ≡ port → (at : NodeName) × IsEnd d.netlist n.id at
  some_end (pin ∷ pins) on port port_is = (
    pin_name d.netlist pin,
    inl (record { pin = pin; link = (pins_are_linked d.netlist n.id pin).0 (subst (λ (ps : List PinRef). Contains ps pin) (sym on) (0, omega arith, refl)); named = refl }),
  )
  some_end [] on (Some direction) port_is = (record { owner = net.name; leaf = [] }, inr (record { net = net; is = is; direction = direction; port = port_is; named = refl }))
  some_end [] on None port_is = absurd (agrees (λ connected. (let (at, there) = first_there n.par n.par.conns driver refl alone in no_end at ((connected.same at).0 there))))
    where
      no_end : (at : NodeName) → IsEnd d.netlist n.id at → ⊥
      no_end at (inl linked) =
          let (i, low, there) = (pins_are_linked d.netlist n.id linked.pin).1 linked.link in
          omega (arith, low, ap (λ (ps : List PinRef). length ps) on)
      no_end at (inr port) =
          let same = same_Some port.net net (sym port.is ∙ is) in
          let e : Some port.direction ≡ None = sym port.port ∙ ap (λ (m : Net). m.port) same ∙ port_is in
          cc

-- ---- the net

module _ (texts : Texts) (d : Design) (prefix : List ℕ) (nets : List PlacedNet) (new : Texts) (w : AreWrittenAnew texts d prefix nets new) (name : List ℕ)
    (other : (p : PlacedNet) → Contains nets p → name ≢ p.net.par.name) (found : NetProblem) (is : IsNetProblem d name found) where
  abbrev n : Joined
  n = is.net

  abbrev now : Design
  now = again texts d prefix nets new w

  own_name : name ≡ n.par.name
  own_name = name_is d.spef name n.par is.joined.named

  held : (r : Refusal) → Holds d n r → Refuses d name r
  held UnknownNet h = absurd h
  held (Section fault) h = absurd h
  held r h = record { net = n; joined = is.joined; holds = h }

  -- its number is no put net's
  other_number : (p : PlacedNet) → Contains nets p → p.net.id ≢ n.id
  other_number p there same =
      let own = of_all (IsPlacedNet d) nets p w.nets_are there in
      let joined = subst (λ (q : PlacedNet). IsJoined d own.name q.net) (sym own.is) own.net.joined in
      let a = net_of_joined texts.verilog d own.name p.net w.design.netlist joined in
      let b = net_of_joined texts.verilog d name n w.design.netlist is.joined in
      let one = same_Some a.net b.net (sym a.is ∙ ap (λ k. slice_get d.netlist.nets k) same ∙ b.is) in
      other p there (own_name ∙ sym b.named ∙ ap (λ (m : Net). m.name) (sym one) ∙ a.named)

  stays : HasNetAsItWas d.netlist n.id now.netlist n.par.name
  stays =
      let b = net_of_joined texts.verilog d name n w.design.netlist is.joined in
      let (at, end) =
      some_end d n b.net b.is is.a_tree.driven.driver is.a_tree.driven.alone (λ apart. is.accepted Mismatch (omega arith) (held Mismatch apart))
      (pins_on d.netlist n.id) refl b.net.port refl in
      let r = renewed texts d prefix nets new w in
      subst (HasNetAsItWas d.netlist n.id now.netlist) b.named
      (other_nets_stay texts.verilog d prefix nets w.changes new.verilog (netlist texts d prefix nets new w) r.renewed r.denotes r.is n.id b.net at b.is
      (λ i e low. other_number (get_or nets i e) (i, low, get_or_default nets i (get_or nets i e) e low)) end)

  abbrev m : Joined
  m = record { par = n.par; id = stays.now }

  joined_now : IsJoined now name m
  joined_now = record {
    named =
        others_stay d prefix nets w.changes (without_comments Spef new.spef) name n.par (by texts d prefix nets new w) (stages texts d prefix nets new w) is.joined.named other;
    number = ap (net_number now.netlist) own_name ∙ stays.number;
  }

  pub problem_now : IsNetProblem now name found
  problem_now = record {
    accepted =
        passes_for now name m joined_now 17
        (λ r low h. is.accepted r low (held r (held_before d n now.spef now.netlist stays.now stays.is r h)));
    net = m;
    joined = joined_now;
    tree = is.tree;
    order = is.order;
    a_tree = is.a_tree;
    problem = problem_stays d n now.spef now.netlist stays.now stays.is is.tree is.order found.problem is.problem;
    names = is.names;
  }

pub others_keep_problems : OtherNetsKeepProblems
others_keep_problems texts d prefix nets new w e is_e name other found is =
    subst (λ (f : Design). IsNetProblem f name found)
    (one_is new (again texts d prefix nets new w) e (is_design texts d prefix nets new w) is_e)
    (problem_now texts d prefix nets new w name other found is)

pub others_keep_slacks : OtherNetsKeepSlacks
others_keep_slacks texts d prefix nets new w e is_e name other timed is = record {
  found = is.found;
  problem = others_keep_problems texts d prefix nets new w e is_e name other is.found is.problem;
  wrong = is.wrong;
  timing = is.timing;
  named = is.named;
}

-- ---- what mode `time` tells

-- the nodes of a net have old names
old_owners : (d : Design) (prefix name : List ℕ) (n : Joined) → taken d prefix ≡ None → IsJoined d name n → PassesUpTo 17 d name → (v : ℕ) → v < length n.par.nodes
    → IsOld prefix (name_of n.par v).owner
old_owners d prefix name n free joined accepted v low = owners_old d prefix free name n joined accepted v NO_NODE low

pub others_retime : OtherNetsRetime
unfolding problem_now
others_retime texts d prefix nets new w e is_e name other timed is =
    let old = old_owners d prefix name is.problem.net (none_taken d prefix nets w.changes (by texts d prefix nets new w)) is.problem.joined is.problem.accepted in
    let now : IsTimedOf (again texts d prefix nets new w) name timed
    = record { found = is.found; problem = problem_now texts d prefix nets new w name other is.found is.problem; wrong = is.wrong; timing = is.timing; named = is.named } in (
      bare_retimes d prefix name timed is old,
      subst (λ (f : Design). Retimes 17 f prefix name timed) (one_is new (again texts d prefix nets new w) e (is_design texts d prefix nets new w) is_e)
          (bare_retimes (again texts d prefix nets new w) prefix name timed now old),
    )
