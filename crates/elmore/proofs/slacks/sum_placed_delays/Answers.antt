use Rattle.std.proofs.Common.{◌≡◌, ◌∙◌, ap, sym, arith, ℕ, ◌<◌, length, slice_index_or, List, ℤ, pos, to_z, of_z, Option}
use Rattle.std.proofs.lemmas.Int.{ints}
use Rattle.std.proofs.Math.ListN.{length-set}
use mir.Syntax.{w128}
use Rattle.elmore.specs.Stage.{input_load}
use Rattle.elmore.specs.Placed.{placed_load, placed_delay}
use Rattle.elmore.specs.Steps.{IsPlacedTree}
use Rattle.elmore.specs.Trees.{parent_of}
use Rattle.elmore.specs.declared.tree.Node.{Node}
use Rattle.elmore.specs.declared.rep.Rep.{Rep}
use Rattle.elmore.proofs.FitLemmas.{is_sum, same_sum}
use Rattle.elmore.proofs.FilledLemmas.{AreFilled, replaced_first, replaced_more, filled_time}
use Rattle.elmore.proofs.TreeLemmas.{parent_read, resistance_read}
use Rattle.elmore.proofs.PlacedTreeLemmas.{root_delay, next_delay, load_small, input_load_small, delay_small, delay_whole}
use Rattle.elmore.proofs.slacks.sum_placed_delays.Goals as goal

pub sum_at-requires-clause-sum : goal.sum_at-requires-clause-sum
sum_at-requires-clause-sum c =
    is_sum _ (placed_load c.args.nodes.now c.args.reps.now c.args.cells.now 0)
    (omega (arith, load_small c.args.nodes.now c.args.reps.now c.args.cells.now c.requires.placed 0)) (c.requires.loads 0 c.requires.placed.a_tree.some_node)

pub cell_delay-requires-clause-load : goal.cell_delay-requires-clause-load
cell_delay-requires-clause-load c =
    omega (arith, same_sum _ _ _ c.sum_at.ensures (c.requires.loads 0 c.requires.placed.a_tree.some_node), load_small c.args.nodes.now c.args.reps.now c.args.cells.now c.requires.placed 0)

pub down-init : goal.down-init
down-init c =
    replaced_first (λ k. pos (placed_delay c.args.nodes.now c.args.reps.now c.args.cells.now 0 k))
    (λ k. pos (placed_load c.args.nodes.now c.args.reps.now c.args.cells.now k)) (pos 0) c.args.delays.now (length c.args.nodes.now) _ (omega arith)
    (rw (
      c.cell_delay.ensures,
      same_sum _ _ _ c.sum_at.ensures (c.requires.loads 0 c.requires.placed.a_tree.some_node),
      ← root_delay c.args.nodes.now c.requires.placed.a_tree c.args.reps.now c.args.cells.now,
    ) (delay_whole c.args.nodes.now c.args.reps.now c.args.cells.now c.requires.placed 0 c.requires.placed.a_tree.some_node))
    c.requires.loads

pub slice_copy_out-before : goal.slice_copy_out-before
slice_copy_out-before c =
    omega (arith, parent_read c.args.nodes.now c.down.v (record { parent = 0; r = 0; c = 0 }), c.requires.placed.a_tree.smaller c.down.v, length-set {A = ℤ})

-- what stands at the parent
before_is : (tree : List Node) (reps : List Rep) (cells : List (Option ℕ)) → IsPlacedTree tree reps cells
    → (delays : List ℤ) (v : ℕ) → 0 < v → v < length tree → AreFilled (λ k. pos (placed_delay tree reps cells 0 k)) (pos 0) v delays
    → to_z w128 (of_z w128 (slice_index_or delays (slice_index_or tree v (record { parent = 0; r = 0; c = 0 })).parent (pos 0)))
    ≡ pos (placed_delay tree reps cells 0 (parent_of tree v))
before_is tree reps cells placed delays v v_0 v_n before =
    filled_time (placed_delay tree reps cells 0) delays v (parent_of tree v) _ (parent_read tree v (record { parent = 0; r = 0; c = 0 }) v_n)
    (placed.a_tree.smaller v v_0 v_n) (delay_small tree reps cells placed (parent_of tree v) (omega (arith, placed.a_tree.smaller v v_0 v_n))) before

pub delay_past-requires-clause-before_low : goal.delay_past-requires-clause-before_low
delay_past-requires-clause-before_low c =
    rw (before_is c.args.nodes.now c.args.reps.now c.args.cells.now c.requires.placed
    c.down.delays c.down.v (omega arith) (omega arith) c.down.invariant.done)
    (omega (arith, ints))

pub delay_past-requires-clause-before_high : goal.delay_past-requires-clause-before_high
delay_past-requires-clause-before_high c =
    rw (before_is c.args.nodes.now c.args.reps.now c.args.cells.now c.requires.placed
    c.down.delays c.down.v (omega arith) (omega arith) c.down.invariant.done)
    (omega (
      arith,
      ints,
      delay_small c.args.nodes.now c.args.reps.now c.args.cells.now c.requires.placed
          (parent_of c.args.nodes.now c.down.v) (omega (arith, c.requires.placed.a_tree.smaller c.down.v)),
    ))

pub sum_at-load-requires-clause-sum : goal.sum_at-load-requires-clause-sum
sum_at-load-requires-clause-sum c =
    is_sum _ (placed_load c.args.nodes.now c.args.reps.now c.args.cells.now c.down.v)
    (omega (arith, load_small c.args.nodes.now c.args.reps.now c.args.cells.now c.requires.placed c.down.v))
    (c.down.invariant.rest c.down.v (omega arith) (omega arith))

pub delay_past-requires-clause-load : goal.delay_past-requires-clause-load
delay_past-requires-clause-load c =
    omega (
      arith,
      same_sum _ _ _ c.sum_at-load.ensures (c.down.invariant.rest c.down.v (omega arith) (omega arith)),
      load_small c.args.nodes.now c.args.reps.now c.args.cells.now c.requires.placed c.down.v,
    )

pub delay_past-requires-clause-seen : goal.delay_past-requires-clause-seen
unfolding input_load
delay_past-requires-clause-seen c =
    rw (same_sum _ _ _ c.sum_at-load.ensures (c.down.invariant.rest c.down.v (omega arith) (omega arith)))
    (input_load_small c.args.nodes.now c.args.reps.now c.args.cells.now c.requires.placed c.down.v (omega arith))

pub down-preserved : goal.down-preserved
unfolding input_load
down-preserved c =
    let v_n : c.down.v < length c.args.nodes.now = omega arith in
    let sum : c.delay_past.result ≡ pos (placed_delay c.args.nodes.now c.args.reps.now c.args.cells.now 0 c.down.v) =
    rw (
      before_is c.args.nodes.now c.args.reps.now c.args.cells.now c.requires.placed
          c.down.delays c.down.v (omega arith) v_n c.down.invariant.done,
      resistance_read c.args.nodes.now c.down.v (record { parent = 0; r = 0; c = 0 }) v_n,
      same_sum _ _ _ c.sum_at-load.ensures (c.down.invariant.rest c.down.v (omega arith) (omega arith)),
    ) at c.delay_past.ensures
    ∙ ap pos (sym (next_delay c.args.nodes.now c.requires.placed.a_tree c.args.reps.now c.args.cells.now c.down.v (omega arith) v_n)) in
    replaced_more (λ k. pos (placed_delay c.args.nodes.now c.args.reps.now c.args.cells.now 0 k))
    (λ k. pos (placed_load c.args.nodes.now c.args.reps.now c.args.cells.now k)) (pos 0) c.down.delays c.down.v (length c.args.nodes.now) _
    (omega (arith, length-set {A = ℤ}))
    (rw sum (delay_whole c.args.nodes.now c.args.reps.now c.args.cells.now c.requires.placed c.down.v v_n))
    c.down.invariant
