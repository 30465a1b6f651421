use Rattle.std.proofs.Common.{get_or, pos, ◌-ℤ◌, ◌≡◌, ◌<◌, ◌++◌, ◌+◌, [], ◌∷◌, length, List, Option, ℤ, sym, ap, ◌∙◌, subst, arith, ℕ}
use Rattle.std.specs.Prelude.{IfSome}
use Rattle.std.specs.List.{filter_map, range_with_len}
use Rattle.std.proofs.lemmas.List.{append-nil}
use Rattle.elmore.specs.Problems.{IsSmall}
use Rattle.cut_laws.specs.Walks.{end_at, late_at}
use Rattle.vg_retime.specs.Steps.{IsSizedEnd}
use Rattle.vg_retime.specs.Times.{left_by, IsLeastOf, IsTime}
use Rattle.vg_retime.specs.WalkNets.{WalkNet, timed, walk_end}
use Rattle.vg_retime.specs.declared.walk_net.End.{End as EndHere}
use Rattle.vg_retime.proofs.RangeLemmas.{least_skips, least_takes}
use Rattle.vg_retime.proofs.SignalLemmas.{ends_size, left_here, none_here, sized_here}
use Rattle.vg_retime.proofs.SlackLemmas.{small_whole, time_whole}
use Rattle.vg_retime.proofs.signals.least_in.Goals as goal
use Rattle.vg_retime.proofs.signals.least_in.Goals.{in-Sink, in_default}

pub index-requires : goal.index-requires
index-requires c =
    let size = ends_size c.args.net.now c.net.inside.ends.items (sym (ap (λ (n : WalkNet). n.ends) c.net.view_is)) in
    let each = c.requires.net.one_each in
    let lates = c.requires.one_each in
    let test = c.node-test.true in
    let low : c.node.i < length c.net.inside.ends.items = omega (arith, size, lates, each, test) in
    let low_tree : c.node.i < length c.args.net.now.tree = omega (arith, lates, test) in
    omega (arith, size, lates, each, test)

pub left_of-requires-clause-required : goal.left_of-requires-clause-required
left_of-requires-clause-required c =
    let size = ends_size c.args.net.now c.net.inside.ends.items (sym (ap (λ (n : WalkNet). n.ends) c.net.view_is)) in
    let each = c.requires.net.one_each in
    let lates = c.requires.one_each in
    let test = c.node-test.true in
    let low : c.node.i < length c.net.inside.ends.items = omega (arith, size, lates, each, test) in
    let low_tree : c.node.i < length c.args.net.now.tree = omega (arith, lates, test) in
    let small : IsSmall c.in-Sink.goal.required = subst (λ (e : EndHere). IsSizedEnd 4294967296 (walk_end e)) c.in-Sink.is
    (sized_here 4294967296 c.args.net.now c.net.inside.ends.items c.node.i c.index.result.now c.requires.net (sym (ap (λ (n : WalkNet). n.ends) c.net.view_is)) low c.index.ensures) in
    subst IsSmall (sym (small_whole c.in-Sink.goal.required small)) small

pub left_of-requires-clause-late : goal.left_of-requires-clause-late
left_of-requires-clause-late c = c.requires.small c.node.i

pub node-init : goal.node-init
node-init c = record { least = λ s times is before. subst (λ (xs : List ℤ). IsLeastOf xs c.args.before) (sym (append-nil times)) before; small = λ h. h }

pub node-preserved : goal.node-preserved
node-preserved c =
    let size = ends_size c.args.net.now c.net.inside.ends.items (sym (ap (λ (n : WalkNet). n.ends) c.net.view_is)) in
    let each = c.requires.net.one_each in
    let lates = c.requires.one_each in
    let test = c.node-test.true in
    let low : c.node.i < length c.net.inside.ends.items = omega (arith, size, lates, each, test) in
    let low_tree : c.node.i < length c.args.net.now.tree = omega (arith, lates, test) in
    elim c.match-index.branch [
      | in-Sink w ↦
          let required : IsSmall w.in-Sink.goal.required = subst (λ (e : EndHere). IsSizedEnd 4294967296 (walk_end e)) w.in-Sink.is
          (sized_here 4294967296 c.args.net.now c.net.inside.ends.items c.node.i c.index.result.now c.requires.net (sym (ap (λ (n : WalkNet). n.ends) c.net.view_is)) low c.index.ensures) in
          let same = small_whole w.in-Sink.goal.required required in
          let left_is : w.left_of.result ≡ w.in-Sink.goal.required -ℤ pos (get_or c.args.lates.now c.node.i 0) =
          w.left_of.ensures.left ∙ ap (λ (z : ℤ). z -ℤ pos (get_or c.args.lates.now c.node.i 0)) same in
          let small_left : IsTime w.left_of.result = w.left_of.ensures.small in
          let passed = time_whole w.left_of.result small_left in
          record {
            least = λ s times is before. subst (IsLeastOf (times ++ filter_map (λ (w : ℕ). left_by (end_at (timed c.args.net.now) w) (late_at (timed c.args.net.now) s w)) (range_with_len 0 (c.node.i + 1)))) (sym w.least-is)
                (least_takes times (λ (w : ℕ). left_by (end_at (timed c.args.net.now) w) (late_at (timed c.args.net.now) s w)) c.node.i w.left_of.result c.node.least w.lesser-least.result
                (left_here c.args.net.now s c.net.inside.ends.items c.args.lates.now c.node.i c.index.result.now w.in-Sink.goal w.left_of.result (sym (ap (λ (n : WalkNet). n.ends) c.net.view_is)) low c.index.ensures (ap walk_end w.in-Sink.is) is low_tree left_is)
                (λ xs least. subst (λ (z : ℤ). IsLeastOf (xs ++ z ∷ []) w.lesser-least.result) passed (w.lesser-least.ensures.least xs least)) (c.node.invariant.least s times is before));
            small = λ h. subst (λ (o : Option ℤ). IfSome o IsTime) (sym w.least-is) (w.lesser-least.ensures.small (c.node.invariant.small h) (subst IsTime (sym passed) small_left));
          }
      | in_default w ↦ record {
        least = λ s times is before. subst (IsLeastOf (times ++ filter_map (λ (w : ℕ). left_by (end_at (timed c.args.net.now) w) (late_at (timed c.args.net.now) s w)) (range_with_len 0 (c.node.i + 1)))) (sym w.least-is)
            (least_skips times (λ (w : ℕ). left_by (end_at (timed c.args.net.now) w) (late_at (timed c.args.net.now) s w)) c.node.i c.node.least
            (none_here c.args.net.now s c.net.inside.ends.items c.node.i c.index.result.now (sym (ap (λ (n : WalkNet). n.ends) c.net.view_is)) low c.index.ensures w.in_default.not-Sink) (c.node.invariant.least s times is before));
        small = λ h. subst (λ (o : Option ℤ). IfSome o IsTime) (sym w.least-is) (c.node.invariant.small h);
      }
    ]

pub returns-clause-least : goal.returns-clause-least
returns-clause-least c =
    let lates = c.requires.one_each in
    let high = c.node-test.false in
    let end = c.node.auto.i-end in
    let same : c.node.i ≡ length c.args.net.now.tree = omega (arith, lates, high, end) in
    λ s is times before. subst (λ (k : ℕ). IsLeastOf (times ++ filter_map (λ (w : ℕ). left_by (end_at (timed c.args.net.now) w) (late_at (timed c.args.net.now) s w)) (range_with_len 0 k)) c.node.least) same (c.node.invariant.least s times is before)
