-- What the new design has of the ends of a stage: loads, drives and required times.
use Rattle.std.proofs.Common.{◌≡◌, ◌≢◌, ℕ, ◌<◌, ◌==◌, ◌&&◌, Bool, true, false, not, List, length, refl, sym, ap, ◌∙◌, arith, Contains, inl, inr, Some, is_none, option_map}
use Rattle.std.specs.Prelude.{option_and_then}
use Rattle.std.proofs.lemmas.Bool.{cases_Bool, cases_eq, false≢true}
use Rattle.lib_linear.specs.Libraries.{cap_of, drive_in, limit_of}
use Rattle.spef_net.specs.declared.net.ParConn.{ParConn}
use Rattle.vg_cons.specs.Rows.{required_of}
use Rattle.vg_design.specs.Designs.{Design, Joined, cell_on, instance_at, is_port, name_of, pin_cap_of, pin_drive_of, pin_limit_of}
use Rattle.vg_design.specs.Refusals.{is_unconstrained, is_unloaded}
use Rattle.split_laws.proofs.StageConnLemmas.{drives_in, head_drives}
use Rattle.vg_retime.specs.Passages.{into_at}
use Rattle.vg_retime.specs.Refusals.{is_unconstrained_here}
use Rattle.vg_scan.specs.declared.name.NodeName.{NodeName}
use Rattle.vg_split.specs.Splits.{Split, ends_in, forest, head, is_celled, name_in, old_conn, old_node, repeater_at}
use Rattle.vg_split.specs.Stages.{heads}
use Rattle.spef_wire.specs.Refusals.{drives_at, is_sink}
use Rattle.retime_laws.specs.NetlistStages.{HasCellPin, IsStageIn, stage_number}
use Rattle.retime_laws.specs.NewStages.{HasStages, IsPut, stage_net}
use Rattle.retime_laws.proofs.EndLemmas.{IsConnAt, IsKept, kept}
use Rattle.retime_laws.proofs.OldLemmas.{sink_constrained, sink_loaded}
use Rattle.retime_laws.proofs.PassageLemmas.{into_new, leaf_at}
use Rattle.retime_laws.proofs.RepeaterLemmas.{of_cells, pins_named}
use Rattle.std.proofs.lemmas.Bool.{eq-eqb, ne_eqb}

and_false_right : (a b : Bool) → b ≡ false → (a && b) ≡ false
and_false_right true b e = e
and_false_right false b e = refl

and_false_left : (a b : Bool) → a ≡ false → (a && b) ≡ false
and_false_left true b e = absurd (false≢true (sym e))
and_false_left false b e = refl

-- a name with bytes is none of a port
some_leaf : (leaf : List ℕ) → 0 < length leaf → (length leaf == 0) ≡ false
some_leaf leaf some = ne_eqb (length leaf) 0 (λ e. omega (arith, e, some))

module _ (d : Design) (n : Joined) (x : Split) (new : Design) (put : IsPut d n x) (has : HasStages d n x new) (k : ℕ) (low : k < length (heads (forest x))) where
  abbrev pub net : Joined
  net = stage_net has k low

  abbrev pub links : IsStageIn d.netlist n.id x new.netlist k
  links = has.netlist k low

  -- ---- old pins

  module _ (w : ℕ) (there : Contains (ends_in x k) w) (bare : is_celled x w ≡ false) (leafy : is_port (old_node x w).name ≡ false) where
    abbrev at : NodeName
    at = (old_node x w).name

    pub cap_kept : pin_cap_of new net at ≡ pin_cap_of d n at
    cap_kept = λ i. option_and_then (λ cell. cap_of (has.library i) cell at.leaf) (links.pins w there bare leafy i)

    pub drive_kept : pin_drive_of new net at ≡ pin_drive_of d n at
    drive_kept = λ i. option_and_then (λ cell. drive_in (has.library i) cell at.leaf) (links.pins w there bare leafy i)

    pub limit_kept : pin_limit_of new net at ≡ pin_limit_of d n at
    limit_kept = λ i. option_and_then (λ cell. limit_of (has.library i) cell at.leaf) (links.pins w there bare leafy i)

  -- ---- pins of cells

  module _ (w : ℕ) (there : Contains (ends_in x k) w) (celled : is_celled x w ≡ true) where
    abbrev pub cell : HasCellPin x new.netlist k w
    cell = links.cells w there celled

    cell_is : cell_on new.netlist (stage_number x new.netlist k) (name_in x k w) ≡ Some (repeater_at x w).cell
    cell_is = ap (option_map (λ pin. (instance_at new.netlist pin).cell)) cell.on ∙ ap Some cell.of_cell.cell

    input_leaf : w ≢ head x k → (name_in x k w).leaf ≡ (repeater_at x w).input
    input_leaf other = leaf_at d n x new put has k low w celled cell false (ne_eqb w (head x k) other)

    output_leaf : w ≡ head x k → (name_in x k w).leaf ≡ (repeater_at x w).output
    output_leaf here = leaf_at d n x new put has k low w celled cell true (eq-eqb w (head x k) here)

    -- the input of a cell that ends the stage has its load
    pub cap_new : w ≢ head x k → pin_cap_of new net (name_in x k w) ≡ Some (repeater_at x w).rep.cin
    cap_new other =
        ap (option_and_then (λ cell. cap_of new.library cell (name_in x k w).leaf)) cell_is
        ∙ (λ i. cap_of (has.library i) (repeater_at x w).cell (input_leaf other i)) ∙ (of_cells d n x put w celled).input

    -- the output of one where the stage begins drives as it does
    pub drive_new : w ≡ head x k → pin_drive_of new net (name_in x k w) ≡ Some ((repeater_at x w).rep.k, (repeater_at x w).rep.r)
    drive_new here =
        ap (option_and_then (λ cell. drive_in new.library cell (name_in x k w).leaf)) cell_is
        ∙ (λ i. drive_in (has.library i) (repeater_at x w).cell (output_leaf here i)) ∙ (of_cells d n x put w celled).output

    pub no_port : w ≢ head x k → is_port (name_in x k w) ≡ false
    no_port other = ap (λ leaf. length leaf == 0) (input_leaf other) ∙ some_leaf (repeater_at x w).input (pins_named d n x put w celled).input.some

    pub no_port_head : w ≡ head x k → is_port (name_in x k w) ≡ false
    no_port_head here = ap (λ leaf. length leaf == 0) (output_leaf here) ∙ some_leaf (repeater_at x w).output (pins_named d n x put w celled).output.some

  -- ---- connections

  module _ (conn : ParConn) (w : ℕ) (is : IsConnAt x k net.par conn w) where
    sinks_as : is_sink conn ≡ not (drives_in x k w)
    sinks_as = λ i. not (drives_at (is.kind i) (is.way i))

    -- the one where the stage begins is no sink
    head_no_sink : w ≡ head x k → is_sink conn ≡ false
    head_no_sink here = sinks_as ∙ ap not (ap (drives_in x k) here ∙ head_drives d n x put.split k low)

    module _ (bare : is_celled x w ≡ false) where
      old : IsKept n x k w
      old = kept d n x put.split k low w is.end bare

      same_sink : is_sink conn ≡ is_sink (old_conn x w)
      same_sink = sinks_as ∙ (λ i. not (drives_at (old.kind i) (old.way i)))

      same_name : name_of net.par conn.node ≡ name_of n.par (old_conn x w).node
      same_name = is.name ∙ old.name ∙ sym old.old_name

      old_loaded : is_unloaded new net conn ≡ false
      old_loaded = elim (cases_Bool (is_port (name_of net.par conn.node))) [
        | inl port ↦
            and_false_right (is_sink conn) (not (is_port (name_of net.par conn.node)) && is_none (pin_cap_of new net (name_of net.par conn.node)))
            (and_false_left (not (is_port (name_of net.par conn.node))) (is_none (pin_cap_of new net (name_of net.par conn.node))) (ap not port))
        | inr leafy ↦
            let name : name_of net.par conn.node ≡ (old_node x w).name = is.name ∙ old.name in
            let cap : pin_cap_of new net (name_of net.par conn.node) ≡ pin_cap_of d n (name_of n.par (old_conn x w).node)
            = ap (pin_cap_of new net) name ∙ cap_kept w is.there bare (sym (ap is_port name) ∙ leafy) ∙ ap (pin_cap_of d n) (sym old.old_name) in
            (λ i. same_sink i && (not (is_port (same_name i)) && is_none (cap i)))
            ∙ sink_loaded d put.name n put.joined put.accepted (old_conn x w) old.there
      ]

      old_constrained : is_unconstrained new.rows net.par conn ≡ false
      old_constrained =
          (λ i. same_sink i && is_none (required_of (has.rows i) (same_name i)))
          ∙ sink_constrained d put.name n put.joined put.accepted (old_conn x w) old.there

    pub loaded : is_unloaded new net conn ≡ false
    loaded = elim (cases_Bool (is_celled x w)) [
      | inl celled ↦ elim (cases_eq w (head x k)) [
        | inl here ↦
            and_false_left (is_sink conn) (not (is_port (name_of net.par conn.node)) && is_none (pin_cap_of new net (name_of net.par conn.node))) (head_no_sink here)
        | inr other ↦
            and_false_right (is_sink conn) (not (is_port (name_of net.par conn.node)) && is_none (pin_cap_of new net (name_of net.par conn.node)))
            (and_false_right (not (is_port (name_of net.par conn.node))) (is_none (pin_cap_of new net (name_of net.par conn.node)))
            (ap (λ at. is_none (pin_cap_of new net at)) is.name ∙ ap (λ o. is_none o) (cap_new w is.there celled other)))
      ]
      | inr bare ↦ old_loaded bare
    ]

    pub constrained : is_unconstrained_here new x.prefix net conn ≡ false
    constrained = elim (cases_Bool (is_celled x w)) [
      | inl celled ↦ elim (cases_eq w (head x k)) [
        | inl here ↦
            and_false_left (is_unconstrained new.rows net.par conn) (is_none (into_at new x.prefix net (name_of net.par conn.node)))
            (and_false_left (is_sink conn) (is_none (required_of new.rows (name_of net.par conn.node))) (head_no_sink here))
        | inr other ↦
            and_false_right (is_unconstrained new.rows net.par conn) (is_none (into_at new x.prefix net (name_of net.par conn.node)))
            (ap (λ at. is_none (into_at new x.prefix net at)) is.name
            ∙ ap (λ o. is_none o) (into_new d n x new put has k low w celled (cell w is.there celled) other))
      ]
      | inr bare ↦
          and_false_left (is_unconstrained new.rows net.par conn) (is_none (into_at new x.prefix net (name_of net.par conn.node))) (old_constrained bare)
    ]
