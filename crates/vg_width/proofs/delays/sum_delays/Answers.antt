use Rattle.std.proofs.Common.{◌+◌, ◌<◌, ◌∙◌, ap, sym, arith, ℕ, length}
use Rattle.std.proofs.Math.ListN.{length-set}
use Rattle.elmore.specs.Trees.{parent_of}
use Rattle.elmore.proofs.FilledLemmas.{filled_first, filled_more}
use Rattle.elmore.proofs.TreeLemmas.{parent_read}
use Rattle.wire_widths.specs.Widths.{wide_delay_between}
use Rattle.vg_width.proofs.DelayLemmas.{root_delay, load_small, charge_small, delay_small, charge_is, resistance_is, before_is, delay_step, own_is}
use Rattle.vg_width.proofs.delays.sum_delays.Goals as goal

pub cell_delay-requires-clause-load : goal.cell_delay-requires-clause-load
cell_delay-requires-clause-load c =
    let p = c.args.p.now in
    omega (
      arith,
      c.requires.loads 0 p.tree.a_tree.some_node,
      load_small p c.args.widths.now c.args.cells.now c.args.chosen.now 0 c.requires.net p.tree.a_tree.some_node,
    )

pub down-init : goal.down-init
down-init c =
    let p = c.args.p.now in
    filled_first (wide_delay_between p c.args.widths.now c.args.cells.now c.args.chosen.now 0) 0 c.args.delays.now c.cell_delay.result
    (omega (arith, p.tree.a_tree.some_node, c.requires.room))
    (own_is p c.args.widths.now c.args.cells.now c.args.chosen.now 0 _ c.cell_delay.result _ c.as_slice-reps.ensures
    (c.requires.loads 0 p.tree.a_tree.some_node) c.cell_delay.ensures
    ∙ sym (root_delay p c.args.widths.now c.args.cells.now c.args.chosen.now))

pub bounds-delays-node : goal.bounds-delays-node
bounds-delays-node c =
    let p = c.args.p.now in
    let v_n : c.down.v < length p.tree.nodes = omega (arith, ap length c.as_slice-nodes.ensures) in
    rw c.as_slice-nodes.ensures
    (omega (arith, parent_read p.tree.nodes c.down.v (record { parent = 0; r = 0; c = 0 }) v_n, p.tree.a_tree.smaller c.down.v (omega arith) v_n, length-set {A = ℕ}))

pub charged-load-requires-clause-load : goal.charged-load-requires-clause-load
charged-load-requires-clause-load c =
    let p = c.args.p.now in
    let v_n : c.down.v < length p.tree.nodes = omega (arith, ap length c.as_slice-nodes.ensures) in
    omega (
      arith,
      c.requires.loads c.down.v v_n,
      load_small p c.args.widths.now c.args.cells.now c.args.chosen.now c.down.v c.requires.net v_n,
    )

pub cell_delay-requires-in-down-clause-load : goal.cell_delay-requires-in-down-clause-load
cell_delay-requires-in-down-clause-load c =
    let p = c.args.p.now in
    let v_n : c.down.v < length p.tree.nodes = omega (arith, ap length c.as_slice-nodes.ensures) in
    omega (
      arith,
      c.requires.loads c.down.v v_n,
      load_small p c.args.widths.now c.args.cells.now c.args.chosen.now c.down.v c.requires.net v_n,
    )

pub delay_behind-behind_wire-requires-clause-before : goal.delay_behind-behind_wire-requires-clause-before
delay_behind-behind_wire-requires-clause-before c =
    let p = c.args.p.now in
    let v_n : c.down.v < length p.tree.nodes = omega (arith, ap length c.as_slice-nodes.ensures) in
    omega (
      arith,
      before_is p (wide_delay_between p c.args.widths.now c.args.cells.now c.args.chosen.now 0) c.down.delays c.down.v _ (record { parent = 0; r = 0; c = 0 })
          c.as_slice-nodes.ensures (omega arith) v_n c.down.invariant,
      delay_small p c.args.widths.now c.args.cells.now c.args.chosen.now (parent_of p.tree.nodes c.down.v) c.requires.net
          (omega (arith, p.tree.a_tree.smaller c.down.v (omega arith) v_n)),
    )

pub delay_behind-behind_wire-requires-clause-load : goal.delay_behind-behind_wire-requires-clause-load
delay_behind-behind_wire-requires-clause-load c =
    let p = c.args.p.now in
    let v_n : c.down.v < length p.tree.nodes = omega (arith, ap length c.as_slice-nodes.ensures) in
    omega (
      arith,
      charge_is p c.args.widths.now c.args.cells.now c.args.chosen.now c.down.v _ _ _ _ _ _ _ c.as_slice-nodes.ensures c.as_slice-reps.ensures v_n
          c.chosen_width-width.ensures.width c.added.ensures c.charged-load.ensures (c.requires.loads c.down.v v_n),
      charge_small p c.args.widths.now c.args.cells.now c.args.chosen.now c.down.v c.requires.net v_n,
    )

pub overflow_add-delays : goal.overflow_add-delays
overflow_add-delays c =
    let p = c.args.p.now in
    let v_n : c.down.v < length p.tree.nodes = omega (arith, ap length c.as_slice-nodes.ensures) in
    omega (
      arith,
      c.delay_behind-behind_wire.ensures,
      delay_step p c.args.widths.now c.args.cells.now c.args.chosen.now c.down.v _ _ _ c.cell_delay-in-down.result (omega arith) v_n
          (before_is p (wide_delay_between p c.args.widths.now c.args.cells.now c.args.chosen.now 0) c.down.delays c.down.v _ (record { parent = 0; r = 0; c = 0 })
          c.as_slice-nodes.ensures (omega arith) v_n c.down.invariant)
          (resistance_is p c.args.widths.now c.args.chosen.now c.down.v _ _ _ _ c.as_slice-nodes.ensures v_n c.chosen_width-width.ensures.width c.resistance.ensures)
          (charge_is p c.args.widths.now c.args.cells.now c.args.chosen.now c.down.v _ _ _ _ _ _ _ c.as_slice-nodes.ensures c.as_slice-reps.ensures v_n
          c.chosen_width-width.ensures.width c.added.ensures c.charged-load.ensures (c.requires.loads c.down.v v_n))
          (own_is p c.args.widths.now c.args.cells.now c.args.chosen.now c.down.v _ _ _ c.as_slice-reps.ensures (c.requires.loads c.down.v v_n) c.cell_delay-in-down.ensures),
      delay_small p c.args.widths.now c.args.cells.now c.args.chosen.now c.down.v c.requires.net v_n,
    )

pub down-preserved : goal.down-preserved
down-preserved c =
    let p = c.args.p.now in
    let v_n : c.down.v < length p.tree.nodes = omega (arith, ap length c.as_slice-nodes.ensures) in
    filled_more (wide_delay_between p c.args.widths.now c.args.cells.now c.args.chosen.now 0) 0 c.down.delays c.down.v _ (omega (arith, length-set {A = ℕ}))
    (ap (λ k. k + c.cell_delay-in-down.result) c.delay_behind-behind_wire.ensures
    ∙ delay_step p c.args.widths.now c.args.cells.now c.args.chosen.now c.down.v _ _ _ c.cell_delay-in-down.result (omega arith) v_n
    (before_is p (wide_delay_between p c.args.widths.now c.args.cells.now c.args.chosen.now 0) c.down.delays c.down.v _ (record { parent = 0; r = 0; c = 0 })
    c.as_slice-nodes.ensures (omega arith) v_n c.down.invariant)
    (resistance_is p c.args.widths.now c.args.chosen.now c.down.v _ _ _ _ c.as_slice-nodes.ensures v_n c.chosen_width-width.ensures.width c.resistance.ensures)
    (charge_is p c.args.widths.now c.args.cells.now c.args.chosen.now c.down.v _ _ _ _ _ _ _ c.as_slice-nodes.ensures c.as_slice-reps.ensures v_n
    c.chosen_width-width.ensures.width c.added.ensures c.charged-load.ensures (c.requires.loads c.down.v v_n))
    (own_is p c.args.widths.now c.args.cells.now c.args.chosen.now c.down.v _ _ _ c.as_slice-reps.ensures (c.requires.loads c.down.v v_n) c.cell_delay-in-down.ensures))
    c.down.invariant
