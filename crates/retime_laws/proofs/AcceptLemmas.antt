-- No refusal of a number below 16 refuses the net of a stage on a walk.
use Rattle.std.proofs.Common.{◌≡◌, ℕ, ◌<◌, Bool, true, false, cond, List, [], ◌∷◌, length, get_or, slice_index, refl, sym, ap, ◌∙◌, subst, arith, Contains, inl, inr, Some, None}
use Rattle.std.specs.Prelude.{◌↔◌}
use Rattle.std.specs.List.{filter}
use Rattle.std.proofs.lemmas.Bool.{cases_Bool, false≢true}
use Rattle.std.proofs.lemmas.List.Elements.{All-contains, All-contains_itself, All-filter, All-from_get_or, Contains-get_or}
use Rattle.spef_net.specs.declared.net.ConnKind.{ConnKind}
use Rattle.spef_net.specs.declared.net.ConnKind.TheVariants.{Pin, Port}
use Rattle.spef_net.specs.declared.net.ParConn.{ParConn}
use Rattle.ver_module.specs.declared.direction.PortDir.TheVariants.{Inout}
use Rattle.vg_design.proofs.ConnectedLemmas.{found_is}
use Rattle.vg_design.proofs.NameLemmas.{joined_once, passes_for}
use Rattle.vg_design.proofs.PassLemmas.{passes_8, passes_9, passes_10, passes_11, passes_12, passes_15}
use Rattle.vg_design.specs.Designs.{Design, Joined, IsConnected, IsEnd, agrees, is_port, name_of, pin_drive_of, port_of}
use Rattle.vg_design.specs.Refusals.{IsFirstConn, IsJoined, IsWithoutDrive, Refuses, is_unloaded}
use Rattle.vg_design.specs.Steps.{PassesNet}
use Rattle.split_laws.proofs.ReadPassLemmas.{end_count, is_read_stage}
use Rattle.split_laws.proofs.StageConnLemmas.{IsEndOf, all_ends, conn_is}
use Rattle.split_laws.proofs.StageLemmas.{bare_head, head_end}
use Rattle.split_laws.proofs.MemberLemmas.{some_end}
use Rattle.split_laws.specs.ReadNets.{IsReadOf}
use Rattle.split_laws.specs.ReadPieces.{IsReadStage}
use Rattle.vg_retime.specs.Refusals.{PassesHere, RefusesHere, is_unconstrained_here}
use Rattle.vg_scan.specs.Nodes.{has_node}
use Rattle.vg_scan.specs.declared.name.NodeName.{NodeName}
use Rattle.vg_split.specs.Splits.{NO_CONN, Split, conn_in, ends_in, forest, head, is_celled, kind_of, name_in, net_of, old_conn, old_node, repeater_at, way_in}
use Rattle.vg_split.specs.Stages.{heads}
use Rattle.spef_wire.specs.Refusals.{IsDrivenAt, drives, number_of}
use Rattle.spef_wire.specs.declared.refusal.Refusal.{Refusal}
use Rattle.spef_wire.specs.declared.refusal.Refusal.TheVariants.{Bidirectional, Unconstrained}
use Rattle.retime_laws.specs.Laws.{StagesAreAccepted}
use Rattle.retime_laws.specs.NewStages.{HasStages, IsPut, stage_net}
use Rattle.retime_laws.proofs.EndLemmas.{IsConnAt, IsKept, conn_at, end_name, kept, name_of_pin, pin_by_name}
use Rattle.retime_laws.proofs.OldLemmas.{drives_well, none_some, port_agrees}
use Rattle.retime_laws.proofs.PinLemmas.{constrained, drive_kept, drive_new, loaded}

module _ (d : Design) (n : Joined) (x : Split) (new : Design) (put : IsPut d n x) (has : HasStages d n x new) (k : ℕ) (low : k < length (heads (forest x))) where
  abbrev pub net : Joined
  net = stage_net has k low

  abbrev pub read_is : IsReadOf d n x k (has.parasitics k low).read
  read_is = (has.parasitics k low).is_read

  abbrev pub stage : IsReadStage x k (has.parasitics k low).read
  stage = is_read_stage d n x k (has.parasitics k low).read read_is

  pub joined : IsJoined new (net_of x k) net
  joined = record { named = (has.parasitics k low).named; number = (has.netlist k low).named }

  -- ---- 5: it is no inout port

  no_inout : port_of new.netlist net.id ≡ Some Inout → ⊥
  no_inout both = elim (has.netlist k low).port [
    | inl same ↦ put.accepted Bidirectional (omega arith) (record { net = n; joined = put.joined; holds = inr (sym same ∙ both) })
    | inr (none, unported) ↦ none_some (port_of new.netlist net.id) Inout none both
  ]

  -- ---- 8: its connections are its ends

  agrees_here : (conn : ParConn) → Contains net.par.conns conn → agrees (port_of new.netlist net.id) conn.kind conn.direction ≡ true
  agrees_here conn there = (let (w, at) = conn_at d n x k net.par read_is conn there in by w at)
    where
      by : (w : ℕ) → IsConnAt x k net.par conn w → agrees (port_of new.netlist net.id) conn.kind conn.direction ≡ true
      by w at = (λ i. agrees (port_of new.netlist net.id) (at.kind i) (at.way i)) ∙ elim (cases_Bool (is_celled x w)) [
        | inl celled ↦ ap (λ b. agrees (port_of new.netlist net.id) (cond b Pin (old_conn x w).kind) (way_in x k w)) celled
        | inr bare ↦ old bare (kept d n x put.split k low w at.end bare)
      ]
        where
          old : is_celled x w ≡ false → IsKept n x k w → agrees (port_of new.netlist net.id) (kind_of x w) (way_in x k w) ≡ true
          old bare was = by_kind (kind_of x w) refl
            where
              by_kind : (kind : ConnKind) → kind_of x w ≡ kind → agrees (port_of new.netlist net.id) kind (way_in x k w) ≡ true
              by_kind Pin is = refl
              by_kind Port is = elim (has.netlist k low).port [
                | inl same ↦
                    (λ i. agrees (same i) ((sym is ∙ was.kind) i) (was.way i)) ∙ port_agrees d put.name n put.joined put.accepted (old_conn x w) was.there
                | inr (none, unported) ↦ absurd (unported w at.there is)
              ]

  connected : IsConnected new.netlist net.id net.par
  connected = record {
    same = λ at. subst (λ (names : List NodeName). (has_node names at ≡ true) ↔ IsEnd new.netlist net.id at) (sym stage.ends) ((has.netlist k low).ends at);
    direction =
        All-from_get_or (λ (conn : ParConn). agrees (port_of new.netlist net.id) conn.kind conn.direction ≡ true) net.par.conns NO_CONN
        (λ i i_low. agrees_here (get_or net.par.conns i NO_CONN) (Contains-get_or net.par.conns i NO_CONN i_low));
  }

  -- ---- 10: its driver has a drive

  first_low : 0 < length (ends_in x k)
  first_low = some_end x k low (head_end d n x put.split k low)

  pub head_name : name_of net.par 0 ≡ name_in x k (head x k)
  head_name = end_name d n x k net.par read_is 0 first_low ∙ ap (name_in x k) stage.begins

  pub head_there : Contains (ends_in x k) (head x k)
  head_there = subst (Contains (ends_in x k)) stage.begins (Contains-get_or (ends_in x k) 0 0 first_low)

  pub head_is_end : IsEndOf x k (head x k)
  head_is_end = subst (IsEndOf x k) stage.begins (all_ends x k 0 0 first_low)

  -- the driver of the net that is split, where the stage begins
  module _ (bare : is_celled x (head x k) ≡ false) where
    old_driver : IsDrivenAt n.par put.split.a_tree.root
    old_driver = put.split.a_tree.driven

    old_there : Contains n.par.conns old_driver.driver
    old_there =
        All-contains (Contains n.par.conns) (filter drives n.par.conns) old_driver.driver
        (All-filter drives (Contains n.par.conns) n.par.conns (All-contains_itself n.par.conns))
        (subst (λ (l : List ParConn). Contains l old_driver.driver) (sym old_driver.alone) (0, omega arith, refl))

    pub old_root_name : name_of n.par (slice_index x.order 0) ≡ (old_node x (head x k)).name
    old_root_name =
        ap (λ p. name_of p (slice_index x.order 0)) (sym put.split.par) ∙ ap (λ w. (old_node x w).name) (sym (bare_head d n x put.split k low bare))

    old_driver_name : name_of n.par old_driver.driver.node ≡ (old_node x (head x k)).name
    old_driver_name = ap (name_of n.par) (old_driver.at ∙ sym put.split.a_tree.a_tree.begins) ∙ old_root_name

    was : IsKept n x k (head x k)
    was = kept d n x put.split k low (head x k) head_is_end bare

    undriven : is_port (old_node x (head x k)).name ≡ false → pin_drive_of new net (old_node x (head x k)).name ≡ None → ⊥
    undriven leafy none =
        drives_well d put.name n put.joined put.accepted old_driver.driver old_driver.alone
        (pin_by_name n.par old_driver.driver old_there (ap is_port old_driver_name ∙ leafy))
        (ap (pin_drive_of d n) old_driver_name ∙ sym (drive_kept d n x new put has k low (head x k) head_there bare leafy) ∙ none)

  well_driven : IsWithoutDrive new net → ⊥
  well_driven without =
      let lists : without.driver ∷ [] ≡ conn_in x k 0 ∷ [] = sym without.alone ∙ stage.driver in
      let same : without.driver ≡ conn_in x k 0 = cc in
      let name : name_of net.par without.driver.node ≡ name_in x k (head x k) = ap (λ (c : ParConn). name_of net.par c.node) same ∙ head_name in
      let none : pin_drive_of new net (name_in x k (head x k)) ≡ None = ap (pin_drive_of new net) (sym name) ∙ without.none in
      elim (cases_Bool (is_celled x (head x k))) [
        | inl celled ↦
            none_some (pin_drive_of new net (name_in x k (head x k))) ((repeater_at x (head x k)).rep.k, (repeater_at x (head x k)).rep.r) none
            (drive_new d n x new put has k low (head x k) head_there celled refl)
        | inr bare ↦
            let first : get_or net.par.conns 0 NO_CONN ≡ conn_in x k 0 = conn_is x k net.par.conns stage.conns 0 first_low in
            let there : Contains net.par.conns without.driver
            = subst (Contains net.par.conns) (first ∙ sym same) (Contains-get_or net.par.conns 0 NO_CONN (omega (arith, first_low, end_count d n x k net.par read_is))) in
            undriven bare (ap is_port (sym (was bare).name ∙ sym name) ∙ name_of_pin net.par without.driver there without.pin)
            (ap (pin_drive_of new net) (sym (was bare).name) ∙ none)
      ]

  -- ---- 11 and 15: its sinks have loads, and those that are not passed have required times

  never_first : (kind : ParConn → Bool) → ((conn : ParConn) → Contains net.par.conns conn → kind conn ≡ false) → (name : NodeName) → IsFirstConn net.par kind name → ⊥
  never_first kind none name first =
      let found = found_is kind net.par.conns first.conn first.first in
      false≢true (sym (none first.conn (found.place, found.low, found.is)) ∙ found.passes)

  no_unloaded : (conn : ParConn) → Contains net.par.conns conn → is_unloaded new net conn ≡ false
  no_unloaded conn there = (let (w, at) = conn_at d n x k net.par read_is conn there in loaded d n x new put has k low conn w at)

  no_unconstrained : (conn : ParConn) → Contains net.par.conns conn → is_unconstrained_here new x.prefix net conn ≡ false
  no_unconstrained conn there = (let (w, at) = conn_at d n x k net.par read_is conn there in constrained d n x new put has k low conn w at)

  -- ---- all of them

  passes : PassesNet 15 new net
  passes =
      passes_15 new net
      (passes_12 new net
      (passes_11 new net
      (passes_10 new net
      (passes_9 new net (passes_8 new net (λ r less. stage.accepted r (omega (arith, less))) no_inout) (λ never. never connected))
      (λ tied. false≢true (sym (has.netlist k low).free ∙ tied)))
      well_driven)
      (λ name. never_first (is_unloaded new net) no_unloaded name))
      stage.accepted

  refuses_there : (r : Refusal) → number_of r < 15 → RefusesHere new x.prefix (net_of x k) r → Refuses new (net_of x k) r
  refuses_there (Unconstrained at) less h = absurd (omega (arith, less))
  refuses_there r less h = h

  pub passes_here : PassesHere 16 new x.prefix (net_of x k)
  passes_here (Unconstrained at) less h =
      never_first (is_unconstrained_here new x.prefix net) no_unconstrained at
      (subst (λ (m : Joined). IsFirstConn m.par (is_unconstrained_here new x.prefix m) at) (joined_once new (net_of x k) h.net net h.joined joined) h.first)
  passes_here r less h = passes_for new (net_of x k) net joined 15 passes r (omega (arith, less)) (refuses_there r (omega (arith, less)) h)

pub stages_are_accepted : StagesAreAccepted
stages_are_accepted d n x new put has k low = passes_here d n x new put has k low
