use Rattle.std.proofs.Common.{◌≡◌, ◌<◌, ◌++◌, map, length, Vec, Global, sym, ap, ◌∙◌, arith, ℕ}
use Rattle.std.specs.List.{filter_map, range_with_len}
use Rattle.cut_laws.specs.Walks.{end_at, passed}
use Rattle.vg_retime.specs.Steps.{signal_of}
use Rattle.vg_retime.specs.WalkNets.{WalkNet, timed}
use Rattle.vg_retime.specs.declared.signals.Signal.{Signal as SignalHere}
use Rattle.vg_retime.proofs.SignalLemmas.{end_here, ends_size, late_here, lates_size, pass_none, pass_some, sized_here}
use Rattle.vg_retime.proofs.signals.pass_on.Goals as goal
use Rattle.vg_retime.proofs.signals.pass_on.Goals.{in-Some+in_ok-push, in_default}

pub index-requires : goal.index-requires
index-requires c =
    let size = ends_size c.args.net.now c.net.inside.ends.items (sym (ap (λ (n : WalkNet). n.ends) c.net.view_is)) in
    let lates = lates_size (timed c.args.net.now) (signal_of c.args.signal.now) c.args.lates.now c.requires.lates in
    let each = c.requires.net.one_each in
    let test = c.node-test.true in
    let low : c.node.i < length c.net.inside.ends.items = omega (arith, size, lates, each, test) in
    let low_tree : c.node.i < length c.args.net.now.tree = omega (arith, lates, test) in
    omega (arith, size, lates, each, test)

pub passed-requires-clause-end : goal.passed-requires-clause-end
passed-requires-clause-end c =
    let size = ends_size c.args.net.now c.net.inside.ends.items (sym (ap (λ (n : WalkNet). n.ends) c.net.view_is)) in
    let lates = lates_size (timed c.args.net.now) (signal_of c.args.signal.now) c.args.lates.now c.requires.lates in
    let each = c.requires.net.one_each in
    let test = c.node-test.true in
    let low : c.node.i < length c.net.inside.ends.items = omega (arith, size, lates, each, test) in
    let low_tree : c.node.i < length c.args.net.now.tree = omega (arith, lates, test) in
    sized_here 4294967296 c.args.net.now c.net.inside.ends.items c.node.i c.index.result.now c.requires.net (sym (ap (λ (n : WalkNet). n.ends) c.net.view_is)) low c.index.ensures

pub passed-requires-clause-late : goal.passed-requires-clause-late
passed-requires-clause-late c = c.requires.small c.node.i

pub node-preserved : goal.node-preserved
node-preserved c =
    let size = ends_size c.args.net.now c.net.inside.ends.items (sym (ap (λ (n : WalkNet). n.ends) c.net.view_is)) in
    let lates = lates_size (timed c.args.net.now) (signal_of c.args.signal.now) c.args.lates.now c.requires.lates in
    let each = c.requires.net.one_each in
    let test = c.node-test.true in
    let low : c.node.i < length c.net.inside.ends.items = omega (arith, size, lates, each, test) in
    let low_tree : c.node.i < length c.args.net.now.tree = omega (arith, lates, test) in
    elim c.match-passed.branch [
      | in-Some+in_ok-push w ↦
          pass_some (λ (w : ℕ). passed (timed c.args.net.now) (signal_of c.args.signal.now) w (end_at (timed c.args.net.now) w)) c.node.i c.args.signals.now.items c.node.signals.items c.match-passed.signals.items c.passed.result w.in-Some.next
          (ap (λ (v : Vec SignalHere Global). v.items) w.signals-is ∙ w.in_ok-push.ensures.items) c.node.invariant (c.passed.ensures (timed c.args.net.now) c.node.i (late_here (timed c.args.net.now) (signal_of c.args.signal.now) c.args.lates.now c.node.i c.requires.lates low_tree) ∙ ap (passed (timed c.args.net.now) (signal_of c.args.signal.now) c.node.i) (sym (end_here c.args.net.now c.net.inside.ends.items c.node.i c.index.result.now (sym (ap (λ (n : WalkNet). n.ends) c.net.view_is)) low c.index.ensures))) w.in-Some.is
      | in_default w ↦
          pass_none (λ (w : ℕ). passed (timed c.args.net.now) (signal_of c.args.signal.now) w (end_at (timed c.args.net.now) w)) c.node.i c.args.signals.now.items c.node.signals.items c.match-passed.signals.items c.passed.result
          (ap (λ (v : Vec SignalHere Global). v.items) w.signals-is) c.node.invariant (c.passed.ensures (timed c.args.net.now) c.node.i (late_here (timed c.args.net.now) (signal_of c.args.signal.now) c.args.lates.now c.node.i c.requires.lates low_tree) ∙ ap (passed (timed c.args.net.now) (signal_of c.args.signal.now) c.node.i) (sym (end_here c.args.net.now c.net.inside.ends.items c.node.i c.index.result.now (sym (ap (λ (n : WalkNet). n.ends) c.net.view_is)) low c.index.ensures))) w.in_default.not-Some
    ]

pub returns : goal.returns
returns c =
    let lates = lates_size (timed c.args.net.now) (signal_of c.args.signal.now) c.args.lates.now c.requires.lates in
    let high = c.node-test.false in
    let end = c.node.auto.i-end in
    let same : c.node.i ≡ length c.args.net.now.tree = omega (arith, lates, high, end) in
    c.node.invariant ∙ ap (λ (k : ℕ). map signal_of c.args.signals.now.items ++ filter_map (λ (w : ℕ). passed (timed c.args.net.now) (signal_of c.args.signal.now) w (end_at (timed c.args.net.now) w)) (range_with_len 0 k)) same
