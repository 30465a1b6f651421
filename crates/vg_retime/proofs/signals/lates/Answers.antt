use Rattle.std.proofs.Common.{◌≡◌, ◌<◌, ◌≤◌, ◌*◌, ◌^◌, ◌++◌, ◌∷◌, [], pos, ℤ, map, length, get_or, List, sym, ap, ◌∙◌, subst, arith, ℕ}
use Rattle.std.specs.List.{range_with_len}
use Rattle.std.proofs.lemmas.List.FromFn.{map-range_with_len_more}
use Rattle.elmore.specs.Trees.{IsTree, IsWithinLimits}
use Rattle.elmore.specs.declared.tree.Node.{Node}
use Rattle.cut_laws.specs.Walks.{late_at}
use Rattle.vg_retime.specs.Steps.{signal_of}
use Rattle.vg_retime.specs.WalkNets.{WalkNet, timed}
use Rattle.vg_retime.proofs.SignalLemmas.{late_made}
use Rattle.vg_retime.proofs.SizeLemmas.{delay_sum, late_small, lates_small}
use Rattle.vg_retime.proofs.signals.lates.Goals as goal

pub delay_at-requires-clause-delay : goal.delay_at-requires-clause-delay
delay_at-requires-clause-delay c =
    let size = ap (λ (t : List Node). length t) c.as_slice-nodes.ensures in
    let test = c.node-test.true in
    let low : c.node.i < length c.net.inside.tree.nodes = omega (arith, size, test) in
    delay_sum c.net.inside.tree.nodes c.node.i _ (subst IsTree (sym (ap (λ (n : WalkNet). n.tree) c.net.view_is)) c.requires.net.a_tree) (subst IsWithinLimits (sym (ap (λ (n : WalkNet). n.tree) c.net.view_is)) c.requires.net.limits) low
    (ap (λ (xs : List ℤ). get_or xs c.node.i (pos 0)) c.delays-delays.ensures ∙ c.wire_delays.ensures.delays c.node.i low)

pub overflow_add-driven-in-node : goal.overflow_add-driven-in-node
overflow_add-driven-in-node c =
    let size = ap (λ (t : List Node). length t) c.as_slice-nodes.ensures in
    let test = c.node-test.true in
    let low : c.node.i < length c.net.inside.tree.nodes = omega (arith, size, test) in
    let whole = ap (λ (t : List Node). length t) (ap (λ (n : WalkNet). n.tree) c.net.view_is) in
    let low_tree : c.node.i < length c.args.net.now.tree = omega (arith, whole, low) in
    let made = late_made (timed c.args.net.now) (signal_of c.args.signal.now) c.net.inside.tree.nodes c.as_slice-nodes.result.now c.node.i c.from.result c.total_capacitance.result c.delay_at.result c.delays-delays.result.now _ (ap (λ (n : WalkNet). n.tree) c.net.view_is) c.as_slice-nodes.ensures c.requires.net.a_tree c.from.ensures c.total_capacitance.ensures c.delays-delays.ensures (c.wire_delays.ensures.delays c.node.i low) c.delay_at.ensures in
    let small = late_small (timed c.args.net.now) (signal_of c.args.signal.now) c.requires.net.a_tree c.requires.net.limits c.requires.signal.r c.node.i low_tree in
    let before = c.requires.signal.late in omega (arith, made, small, before)

pub node-preserved : goal.node-preserved
node-preserved c =
    let size = ap (λ (t : List Node). length t) c.as_slice-nodes.ensures in
    let test = c.node-test.true in
    let low : c.node.i < length c.net.inside.tree.nodes = omega (arith, size, test) in
    let made = late_made (timed c.args.net.now) (signal_of c.args.signal.now) c.net.inside.tree.nodes c.as_slice-nodes.result.now c.node.i c.from.result c.total_capacitance.result c.delay_at.result c.delays-delays.result.now _ (ap (λ (n : WalkNet). n.tree) c.net.view_is) c.as_slice-nodes.ensures c.requires.net.a_tree c.from.ensures c.total_capacitance.ensures c.delays-delays.ensures (c.wire_delays.ensures.delays c.node.i low) c.delay_at.ensures in
    c.in_ok-push.ensures.items
    ∙ (λ k. c.node.invariant k ++ made k ∷ [])
    ∙ sym (map-range_with_len_more (late_at (timed c.args.net.now) (signal_of c.args.signal.now)) 0 c.node.i c.node.i (omega arith))

pub returns-clause-small : goal.returns-clause-small
returns-clause-small c = λ i.
    let size = ap (λ (t : List Node). length t) (c.as_slice-nodes.ensures ∙ (ap (λ (n : WalkNet). n.tree) c.net.view_is)) in
    let high = c.node-test.false in
    let end = c.node.auto.i-end in
    let same : c.node.i ≡ length c.args.net.now.tree = omega (arith, size, high, end) in
    let small = lates_small (timed c.args.net.now) (signal_of c.args.signal.now) c.requires.net.a_tree c.requires.net.limits c.requires.signal.r i in
    let before = c.requires.signal.late in
    subst (λ (xs : List ℕ). get_or xs i 0 ≤ 2 ^ 33 * 10 ^ 24)
    (sym (c.node.invariant ∙ ap (λ (k : ℕ). map (late_at (timed c.args.net.now) (signal_of c.args.signal.now)) (range_with_len 0 k)) same)) (omega (arith, small, before))
