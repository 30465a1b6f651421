use Rattle.std.proofs.Common.{◌∙◌, ap, sym, arith, ℕ, ◌<◌, ◌-◌, length, pos, slice_index_or}
use Rattle.elmore.specs.Cells.{cell_at}
use Rattle.elmore.specs.Stage.{load}
use Rattle.elmore.specs.Trees.{parent_of, capacitance}
use Rattle.elmore.proofs.CutLemmas.{cut, cut_none}
use Rattle.elmore.proofs.LoadLemmas.{load_alone, loads_more, load_read, load_written}
use Rattle.elmore.proofs.TreeLemmas.{tree_falls, cut_past, parent_read}
use Rattle.elmore.proofs.PlacedTreeLemmas.{small_sum}
use Rattle.elmore.proofs.loads.sum_loads.Goals as goal

pub up-init : goal.up-init
up-init c = record {
  each = λ v v_n.
      c.fill_capacitances.ensures v v_n
      ∙ ap pos (sym (load_alone _ (cut_past c.args.nodes.now) (capacitance c.args.nodes.now) (cell_at c.args.reps.now c.args.cells.now) (length c.args.nodes.now) v v_n));
}

pub sum_at-requires-clause-sum : goal.sum_at-requires-clause-sum
sum_at-requires-clause-sum c =
    load_read (cut c.up.v (parent_of c.args.nodes.now)) (capacitance c.args.nodes.now) (cell_at c.args.reps.now c.args.cells.now) (length c.args.nodes.now) c.up.sums (c.up.v - 1)
    (small_sum c.args.nodes.now c.args.reps.now c.args.cells.now c.requires.placement c.requires.sum) c.up.invariant (omega arith)

pub add_to-requires-clause-node : goal.add_to-requires-clause-node
add_to-requires-clause-node c =
    omega (arith, parent_read c.args.nodes.now (c.up.v - 1) (record { parent = 0; r = 0; c = 0 }), c.requires.tree.smaller (c.up.v - 1))

pub add_to-requires-clause-before : goal.add_to-requires-clause-before
add_to-requires-clause-before c =
    let i_n : c.up.v - 1 < length c.args.nodes.now = omega arith in
    load_read (cut c.up.v (parent_of c.args.nodes.now)) (capacitance c.args.nodes.now) (cell_at c.args.reps.now c.args.cells.now) (length c.args.nodes.now) c.up.sums (slice_index_or c.args.nodes.now (c.up.v - 1) (record { parent = 0; r = 0; c = 0 })).parent
    (small_sum c.args.nodes.now c.args.reps.now c.args.cells.now c.requires.placement c.requires.sum) c.up.invariant
    (omega (arith, parent_read c.args.nodes.now (c.up.v - 1) (record { parent = 0; r = 0; c = 0 }) i_n, c.requires.tree.smaller (c.up.v - 1) (omega arith) i_n))

pub add_to-requires-clause-after : goal.add_to-requires-clause-after
add_to-requires-clause-after c =
    let i_n : c.up.v - 1 < length c.args.nodes.now = omega arith in
    rw (parent_read c.args.nodes.now (c.up.v - 1) (record { parent = 0; r = 0; c = 0 }) i_n)
    (load_written (parent_of c.args.nodes.now) (capacitance c.args.nodes.now) (cell_at c.args.reps.now c.args.cells.now) (length c.args.nodes.now) c.up.sums (c.up.v - 1) c.up.v c.sum_at.result c.seen_above-seen.result (small_sum c.args.nodes.now c.args.reps.now c.args.cells.now c.requires.placement c.requires.sum)
    (omega arith) (tree_falls c.args.nodes.now c.requires.tree) (c.requires.tree.smaller (c.up.v - 1) (omega arith) i_n) i_n
    c.up.invariant c.sum_at.ensures c.seen_above-seen.ensures)

pub up-preserved : goal.up-preserved
up-preserved c =
    let i_n : c.up.v - 1 < length c.args.nodes.now = omega arith in
    rw (c.add_to.ensures, parent_read c.args.nodes.now (c.up.v - 1) (record { parent = 0; r = 0; c = 0 }) i_n)
    (loads_more (parent_of c.args.nodes.now) (capacitance c.args.nodes.now) (cell_at c.args.reps.now c.args.cells.now) (length c.args.nodes.now) c.up.sums (c.up.v - 1) c.up.v c.sum_at.result c.seen_above-seen.result
    (omega arith) (tree_falls c.args.nodes.now c.requires.tree) (c.requires.tree.smaller (c.up.v - 1) (omega arith) i_n) i_n (omega arith)
    c.up.invariant c.sum_at.ensures c.seen_above-seen.ensures)

pub returns : goal.returns
returns c = λ v v_n.
    c.up.invariant.each v v_n
    ∙ ap (λ (parent : ℕ → ℕ). pos (load parent (capacitance c.args.nodes.now) (cell_at c.args.reps.now c.args.cells.now) (length c.args.nodes.now) v))
    (cut_none (parent_of c.args.nodes.now) c.up.v (omega arith) c.requires.tree.root)
