use Rattle.std.proofs.Common.{◌≡◌, ◌∙◌, ap, sym, arith, ℕ, ◌^◌, ◌<◌, ◌≤◌, length, slice_index_or, List, ℤ, pos, to_z, of_z}
use Rattle.std.proofs.lemmas.Int.{ints}
use Rattle.std.proofs.Math.ListN.{length-set}
use mir.Syntax.{w128}
use Rattle.elmore.specs.Wire.{delay_in, downstream_in}
use Rattle.elmore.specs.Trees.{IsTree, IsWithinLimits, parent_of}
use Rattle.elmore.specs.declared.tree.Node.{Node}
use Rattle.elmore.proofs.TreeLemmas.{root_delay, delay_fits, small_delay, next_delay, load_bound, parent_read, resistance_read}
use Rattle.elmore.proofs.FitLemmas.{is_sum, same_sum}
use Rattle.elmore.proofs.FilledLemmas.{AreFilled, replaced_first, replaced_more, filled_time}
use Rattle.elmore.proofs.wire.sum_delays.Goals as goal

pub down-init : goal.down-init
down-init c = replaced_first (λ k. pos (delay_in c.args.nodes.now k)) (λ k. pos (downstream_in c.args.nodes.now k)) (pos 0) c.args.delays.now (length c.args.nodes.now) (pos 0) (omega arith)
    (ap pos (sym (root_delay c.args.nodes.now c.requires.tree))) c.requires.loads

pub slice_copy_out-before : goal.slice_copy_out-before
slice_copy_out-before c =
    omega (arith, parent_read c.args.nodes.now c.down.v (record { parent = 0; r = 0; c = 0 }), c.requires.tree.smaller c.down.v, length-set {A = ℤ})

-- what stands at the parent of v
before_is : (nodes : List Node) → IsTree nodes → IsWithinLimits nodes → (delays : List ℤ) (v : ℕ) → 0 < v → v < length nodes
    → AreFilled (λ k. pos (delay_in nodes k)) (pos 0) v delays
    → to_z w128 (of_z w128 (slice_index_or delays (slice_index_or nodes v (record { parent = 0; r = 0; c = 0 })).parent (pos 0))) ≡ pos (delay_in nodes (parent_of nodes v))
before_is nodes t limits delays v v_0 v_n before =
    filled_time (delay_in nodes) delays v (parent_of nodes v) _ (parent_read nodes v (record { parent = 0; r = 0; c = 0 }) v_n) (t.smaller v v_0 v_n)
    (omega (arith, small_delay nodes t limits (parent_of nodes v) (omega (arith, t.smaller v v_0 v_n)))) before

pub delay_behind-requires-clause-before_low : goal.delay_behind-requires-clause-before_low
delay_behind-requires-clause-before_low c =
    let v_n : c.down.v < length c.args.nodes.now = omega arith in
    rw (before_is c.args.nodes.now c.requires.tree c.requires.limits c.down.delays c.down.v (omega arith) v_n c.down.invariant.done)
    (omega (arith, ints))

pub delay_behind-requires-clause-before_high : goal.delay_behind-requires-clause-before_high
delay_behind-requires-clause-before_high c =
    let v_n : c.down.v < length c.args.nodes.now = omega arith in
    let small : delay_in c.args.nodes.now (parent_of c.args.nodes.now c.down.v) ≤ 10 ^ 23 =
    small_delay c.args.nodes.now c.requires.tree c.requires.limits (parent_of c.args.nodes.now c.down.v)
    (omega (arith, c.requires.tree.smaller c.down.v (omega arith) v_n)) in
    rw (before_is c.args.nodes.now c.requires.tree c.requires.limits c.down.delays c.down.v (omega arith) v_n c.down.invariant.done)
    (omega (arith, ints))

pub sum_at-load-requires-clause-sum : goal.sum_at-load-requires-clause-sum
sum_at-load-requires-clause-sum c =
    is_sum _ (downstream_in c.args.nodes.now c.down.v) (omega (arith, load_bound c.args.nodes.now c.down.v, c.requires.limits.capacitances))
    (c.down.invariant.rest c.down.v (omega arith) (omega arith))

pub delay_behind-requires-clause-load : goal.delay_behind-requires-clause-load
delay_behind-requires-clause-load c =
    omega (arith, same_sum _ _ _ c.sum_at-load.ensures (c.down.invariant.rest c.down.v (omega arith) (omega arith)), load_bound c.args.nodes.now c.down.v, c.requires.limits.capacitances)

pub down-preserved : goal.down-preserved
down-preserved c =
    let v_n : c.down.v < length c.args.nodes.now = omega arith in
    let sum : c.delay_behind.result ≡ pos (delay_in c.args.nodes.now c.down.v) =
    rw (
      before_is c.args.nodes.now c.requires.tree c.requires.limits c.down.delays c.down.v (omega arith) v_n c.down.invariant.done,
      resistance_read c.args.nodes.now c.down.v (record { parent = 0; r = 0; c = 0 }) v_n,
      same_sum _ _ _ c.sum_at-load.ensures (c.down.invariant.rest c.down.v (omega arith) v_n),
    ) at c.delay_behind.ensures
    ∙ ap pos (sym (next_delay c.args.nodes.now c.requires.tree c.down.v (omega arith) v_n)) in
    replaced_more (λ k. pos (delay_in c.args.nodes.now k)) (λ k. pos (downstream_in c.args.nodes.now k)) (pos 0) c.down.delays c.down.v (length c.args.nodes.now) _ (omega (arith, length-set {A = ℤ}))
    (rw sum (delay_fits c.args.nodes.now c.requires.tree c.requires.limits c.down.v v_n)) c.down.invariant
