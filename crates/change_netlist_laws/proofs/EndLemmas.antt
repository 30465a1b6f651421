-- The pins and the ports of a net that nothing refuses: its connections are its ends in the netlist.
use Rattle.std.proofs.Common.{◌≡◌, ℕ, ◌||◌, Bool, true, false, List, get_or, refl, ◌∙◌, arith, inl, inr, Option, Some}
use Rattle.std.specs.Prelude.{is_some}
use Rattle.std.proofs.lemmas.Bool.{cases_Bool, false≢true}
use Rattle.std.proofs.lemmas.List.Folds.{Any-from_list_any}
use Rattle.ver_net.specs.Connections.{pins_on, is_tied}
use Rattle.ver_net.specs.declared.pin_ref.PinRef.{PinRef}
use Rattle.ver_net.proofs.LawLemmas.{pins_are_linked}
use Rattle.vg_design.specs.Designs.{Design, Joined, IsConnected, IsLinked, ends_of, name_of, pin_name, agrees}
use Rattle.vg_design.specs.Refusals.{IsJoined, PassesUpTo}
use Rattle.vg_design.specs.Steps.{AreSame, ArePins, FindsPins, has_port_end, is_port_end, pin_at, pin_names}
use Rattle.vg_design.proofs.ConnectedLemmas.{connected_is}
use Rattle.vg_scan.specs.Nodes.{has_node, same_node}
use Rattle.vg_scan.specs.declared.name.NodeName.{NodeName}
use Rattle.spef_nodes.proofs.NodeListLemmas.{same_is}
use Rattle.spef_wire.specs.declared.refusal.Refusal.TheVariants.{Mismatch, Tied}
use Rattle.change_netlist_laws.proofs.OldLemmas.{IsNetOf}
use Rattle.ver_patch_laws.proofs.SetLemmas.{in_mapped, contains_in, in_contains}

module _ (d : Design) (name : List ℕ) (n : Joined) (joined : IsJoined d name n) (accepted : PassesUpTo 17 d name) where
  -- what holds where they are its ends, if it can be decided
  decided : (b : Bool) → (IsConnected d.netlist n.id n.par → b ≡ true) → b ≡ true
  decided true so = refl
  decided false so = absurd (accepted Mismatch (omega arith) (record { net = n; joined = joined; holds = λ c. false≢true (so c) }))

  pub not_tied : is_tied d.netlist n.id ≡ false
  not_tied = elim (cases_Bool (is_tied d.netlist n.id)) [
    | inl tied ↦ absurd (accepted Tied (omega arith) (record { net = n; joined = joined; holds = tied }))
    | inr free ↦ free
  ]

  module _ (pins : List (Option PinRef)) (are : ArePins d n pins) (of : IsNetOf d.netlist n) where
    finds : FindsPins d n (Some pins)
    finds = (are, λ at e. decided (has_node (ends_of n.par) at) (λ c. (c.same at).1 (inl (linked at e))))
      where
        linked : (at : NodeName) → has_node (pin_names d n) at ≡ true → IsLinked d.netlist n.id at
        linked at e =
            let (k, q, low, is, same) = Any-from_list_any (same_node at) (pin_names d n) e in
            let (pin, here, named) = in_mapped (pin_name d.netlist) (pins_on d.netlist n.id) q
            (contains_in (pin_names d n) q (k, low, is)) in
            record {
              pin = pin;
              link = (pins_are_linked d.netlist n.id pin).0 (in_contains (pins_on d.netlist n.id) pin here);
              named = same_is at q same ∙ named;
            }

    same : AreSame of.net n.par pins
    same = record {
      direction = λ i c low. decided (agrees of.net.port (get_or n.par.conns i c).kind (get_or n.par.conns i c).direction) (λ k. ((connected_is d n pins finds of.net of.is).1 k).direction i c low);
      ends = record {
        each = λ i low. decided (is_some (pin_at pins i) || is_port_end of.net (name_of n.par i)) (λ k. ((connected_is d n pins finds of.net of.is).1 k).ends.each i low);
      };
      port_end = decided (has_port_end of.net n.par) (λ k. ((connected_is d n pins finds of.net of.is).1 k).port_end);
    }

    pub connected : IsConnected d.netlist n.id n.par
    connected = (connected_is d n pins finds of.net of.is).0 same
