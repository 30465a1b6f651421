use Rattle.std.proofs.Common.{arith, false, ◌<◌, ◌∙◌, sym, ap, length, Bool}
use Rattle.std.proofs.Math.ListN.{length-set}
use Rattle.elmore.specs.Trees.{parent_of}
use Rattle.elmore.specs.Cells.{cell_at, is_inverter}
use Rattle.elmore.specs.Delay.{is_odd}
use Rattle.elmore.specs.Placed.{placed_inverters}
use Rattle.elmore.proofs.FilledLemmas.{filled_first, filled_more}
use Rattle.elmore.proofs.TreeLemmas.{parent_read}
use Rattle.elmore.proofs.PlacedInverterLemmas.{odd_once, odd_step}
use Rattle.elmore.proofs.PlacedTreeLemmas.{root_inverters, next_inverters}
use Rattle.elmore.proofs.polarity.mark_inverted.Goals as goal

pub down-init : goal.down-init
down-init c =
    filled_first (λ k. is_odd (placed_inverters c.args.nodes.now c.args.reps.now c.args.cells.now 0 k)) false c.args.inverted.now _ (omega arith)
    (c.inverts.ensures
    ∙ sym (odd_once (is_inverter (cell_at c.args.reps.now c.args.cells.now 0)))
    ∙ ap is_odd (sym (root_inverters c.args.nodes.now c.requires.tree c.args.reps.now c.args.cells.now)))

pub bounds-inverted-nodes : goal.bounds-inverted-nodes
bounds-inverted-nodes c =
    omega (arith, parent_read c.args.nodes.now c.down.v (record { parent = 0; r = 0; c = 0 }), c.requires.tree.smaller c.down.v, length-set {A = Bool})

pub down-preserved : goal.down-preserved
down-preserved c =
    let v_n : c.down.v < length c.args.nodes.now = omega arith in
    filled_more (λ k. is_odd (placed_inverters c.args.nodes.now c.args.reps.now c.args.cells.now 0 k)) false c.down.inverted c.down.v _
    (omega (arith, length-set {A = Bool}))
    (rw (
      parent_read c.args.nodes.now c.down.v (record { parent = 0; r = 0; c = 0 }) v_n,
      c.down.invariant.each (parent_of c.args.nodes.now c.down.v) (c.requires.tree.smaller c.down.v (omega arith) v_n),
      c.inverts-in-down.ensures,
    )
    (odd_step (placed_inverters c.args.nodes.now c.args.reps.now c.args.cells.now 0 (parent_of c.args.nodes.now c.down.v))
    (is_inverter (cell_at c.args.reps.now c.args.cells.now c.down.v))
    ∙ ap is_odd (sym (next_inverters c.args.nodes.now c.requires.tree c.args.reps.now c.args.cells.now c.down.v (omega arith) v_n))))
    c.down.invariant
