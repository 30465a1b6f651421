use Rattle.std.proofs.Common.{◌-◌, ◌<◌, ◌∙◌, ap, sym, arith, ℕ, length}
use Rattle.elmore.specs.Cells.{cell_at}
use Rattle.elmore.specs.Trees.{parent_of, capacitance}
use Rattle.elmore.proofs.CutLemmas.{cut, cut_none}
use Rattle.elmore.proofs.TreeLemmas.{tree_falls, cut_past, parent_read}
use Rattle.wire_widths.specs.Widths.{wide_load, a_of}
use Rattle.vg_width.proofs.LoadLemmas.{wide_alone, up_load, loads_more, charged_is, load_from_small}
use Rattle.vg_width.proofs.loads.sum_loads.Goals as goal

pub up-init : goal.up-init
up-init c =
    let p = c.args.p.now in
    rw c.as_slice-nodes.ensures (record {
      each = λ v v_n.
          (rw c.as_slice-nodes.ensures at c.fill_capacitances.ensures) v v_n
          ∙ sym (wide_alone (cut (length p.tree.nodes) (parent_of p.tree.nodes)) (capacitance p.tree.nodes) (a_of p c.args.widths.now c.args.chosen.now)
          (cell_at p.reps c.args.cells.now) (cut_past p.tree.nodes) (length p.tree.nodes) v v_n);
    })

pub charged-requires-clause-load : goal.charged-requires-clause-load
charged-requires-clause-load c =
    let p = c.args.p.now in
    let i_n : c.up.v - 1 < length p.tree.nodes = omega (arith, ap length c.as_slice-nodes.ensures) in
    omega (
      arith,
      c.up.invariant.each (c.up.v - 1) i_n,
      load_from_small p c.args.widths.now c.args.cells.now c.args.chosen.now c.up.v (c.up.v - 1) c.requires.net i_n,
    )

pub bounds-loads-nodes : goal.bounds-loads-nodes
bounds-loads-nodes c =
    let p = c.args.p.now in
    let i_n : c.up.v - 1 < length p.tree.nodes = omega (arith, ap length c.as_slice-nodes.ensures) in
    rw c.as_slice-nodes.ensures
    (omega (arith, parent_read p.tree.nodes (c.up.v - 1) (record { parent = 0; r = 0; c = 0 }) i_n, p.tree.a_tree.smaller (c.up.v - 1) (omega arith) i_n))

pub bounds-loads-nodes-in-up : goal.bounds-loads-nodes-in-up
bounds-loads-nodes-in-up c =
    let p = c.args.p.now in
    let i_n : c.up.v - 1 < length p.tree.nodes = omega (arith, ap length c.as_slice-nodes.ensures) in
    rw c.as_slice-nodes.ensures
    (omega (arith, parent_read p.tree.nodes (c.up.v - 1) (record { parent = 0; r = 0; c = 0 }) i_n, p.tree.a_tree.smaller (c.up.v - 1) (omega arith) i_n))

pub overflow_add-loads : goal.overflow_add-loads
overflow_add-loads c =
    let p = c.args.p.now in
    let i = c.up.v - 1 in
    let i_n : i < length p.tree.nodes = omega (arith, ap length c.as_slice-nodes.ensures) in
    let above = p.tree.a_tree.smaller i (omega arith) i_n in
    rw (c.as_slice-nodes.ensures, parent_read p.tree.nodes i (record { parent = 0; r = 0; c = 0 }) i_n)
    (omega (
      arith,
      up_load (parent_of p.tree.nodes) (capacitance p.tree.nodes) (a_of p c.args.widths.now c.args.chosen.now) (cell_at p.reps c.args.cells.now)
          (length p.tree.nodes) i c.up.v c.charged.result c.up.loads (omega arith) (tree_falls p.tree.nodes p.tree.a_tree) above i_n c.up.invariant
          (charged_is p c.args.widths.now c.args.cells.now c.args.chosen.now i _ _ _ _ _ _ _ c.as_slice-nodes.ensures c.as_slice-reps.ensures i_n
          c.chosen_width.ensures.width c.added-added.ensures c.charged.ensures),
      load_from_small p c.args.widths.now c.args.cells.now c.args.chosen.now i (parent_of p.tree.nodes i) c.requires.net (omega (arith, above, i_n)),
    ))

pub up-preserved : goal.up-preserved
up-preserved c =
    let p = c.args.p.now in
    let i = c.up.v - 1 in
    let i_n : i < length p.tree.nodes = omega (arith, ap length c.as_slice-nodes.ensures) in
    rw (c.as_slice-nodes.ensures, parent_read p.tree.nodes i (record { parent = 0; r = 0; c = 0 }) i_n)
    (loads_more (parent_of p.tree.nodes) (capacitance p.tree.nodes) (a_of p c.args.widths.now c.args.chosen.now) (cell_at p.reps c.args.cells.now)
    (length p.tree.nodes) i c.up.v c.charged.result c.up.loads (omega arith) (tree_falls p.tree.nodes p.tree.a_tree) (p.tree.a_tree.smaller i (omega arith) i_n) i_n
    (omega arith) c.up.invariant
    (charged_is p c.args.widths.now c.args.cells.now c.args.chosen.now i _ _ _ _ _ _ _ c.as_slice-nodes.ensures c.as_slice-reps.ensures i_n
    c.chosen_width.ensures.width c.added-added.ensures c.charged.ensures))

pub returns : goal.returns
returns c =
    let p = c.args.p.now in λ v v_n.
    c.up.invariant.each v v_n
    ∙ ap (λ (parent : ℕ → ℕ). wide_load parent (capacitance p.tree.nodes) (a_of p c.args.widths.now c.args.chosen.now) (cell_at p.reps c.args.cells.now) (length p.tree.nodes) v)
    (cut_none (parent_of p.tree.nodes) c.up.v (omega arith) p.tree.a_tree.root)
