use Rattle.std.proofs.Common.{◌≡◌, ◌+◌, List, [], ◌∷◌, ◌++◌, length, ◌∙◌, ap, subst, arith}
use Rattle.std.proofs.lemmas.List.{length_push, length-take-le}
use Rattle.vg_convex.specs.Hulls.{IsReadySoFar}
use Rattle.vg_convex.specs.Places.{row}
use Rattle.vg_convex.specs.declared.work.Point.{Point}
use Rattle.vg_convex.proofs.Stacks.{start_ready}
use Rattle.vg_convex.proofs.Places.{are_last, pop_ready, rests, pushed}
use Rattle.vg_convex.proofs.hull.put_on.Goals as goal
use Rattle.vg_convex.proofs.hull.put_on.Goals.{else-pops-test, then-pops-test+then-bends}

pub pops-init : goal.pops-init
pops-init g c = record {
  few = omega (arith, c.len-left.ensures);
  ready = λ n h at.
      let all : length c.args.stack.now.items ≡ c.len-left.result = omega (arith, c.len-left.ensures) in
      subst (λ m. IsReadySoFar (row g.xs) n h.numbers m) all (start_ready (row g.xs) n h.numbers (length c.args.stack.now.items) h.hull);
  cost = omega (arith, c.len-left.ensures);
}

pub pops-preserved : goal.pops-preserved
pops-preserved g c = record {
  few = omega (arith, c.pops.invariant.few);
  ready = λ n h at.
      pop_ready g.xs n c.args.stack.now.items h c.pops.left c.index.result.now c.index-in-pops.result.now c.args.point c.pops-test.true c.pops.invariant.few
      at (c.pops.invariant.ready n h at) c.index.ensures c.index-in-pops.ensures c.if-bends.ensures.bend;
  cost = omega (arith, c.pops.invariant.cost, c.if-bends.ensures.step, c.pops-test.true);
}

pub bends-requires-clause-a : goal.bends-requires-clause-a
bends-requires-clause-a g c =
    let (n, h, at) = c.requires.1 in
    (are_last g.xs n c.args.stack.now.items h c.pops.left c.index.result.now c.index-in-pops.result.now c.args.point c.pops-test.true c.pops.invariant.few
    at (c.pops.invariant.ready n h at) c.index.ensures c.index-in-pops.ensures).one_modest

pub bends-requires-clause-b : goal.bends-requires-clause-b
bends-requires-clause-b g c =
    let (n, h, at) = c.requires.1 in
    (are_last g.xs n c.args.stack.now.items h c.pops.left c.index.result.now c.index-in-pops.result.now c.args.point c.pops-test.true c.pops.invariant.few
    at (c.pops.invariant.ready n h at) c.index.ensures c.index-in-pops.ensures).two_modest

pub bends-requires-clause-c : goal.bends-requires-clause-c
bends-requires-clause-c g c =
    let (n, h, at) = c.requires.1 in
    (are_last g.xs n c.args.stack.now.items h c.pops.left c.index.result.now c.index-in-pops.result.now c.args.point c.pops-test.true c.pops.invariant.few
    at (c.pops.invariant.ready n h at) c.index.ensures c.index-in-pops.ensures).three_modest

pub bends-requires-clause-a_b : goal.bends-requires-clause-a_b
bends-requires-clause-a_b g c =
    let (n, h, at) = c.requires.1 in
    (are_last g.xs n c.args.stack.now.items h c.pops.left c.index.result.now c.index-in-pops.result.now c.args.point c.pops-test.true c.pops.invariant.few
    at (c.pops.invariant.ready n h at) c.index.ensures c.index-in-pops.ensures).one_two

pub bends-requires-clause-b_c : goal.bends-requires-clause-b_c
bends-requires-clause-b_c g c =
    let (n, h, at) = c.requires.1 in
    (are_last g.xs n c.args.stack.now.items h c.pops.left c.index.result.now c.index-in-pops.result.now c.args.point c.pops-test.true c.pops.invariant.few
    at (c.pops.invariant.ready n h at) c.index.ensures c.index-in-pops.ensures).two_three

pub returns-in_err-push-clause-cost : goal.returns-in_err-push-clause-cost
returns-in_err-push-clause-cost g c =
    let left : length c.truncate.new.self.items ≡ c.pops.left = ap length c.truncate.ensures.items ∙ length-take-le c.pops.left c.args.stack.now.items c.pops.invariant.few in
    let same : length c.push.new.self.items ≡ length c.truncate.new.self.items = ap length c.in_err-push.ensures.items in
    elim c.pops-test.branch [
      | else-pops-test w ↦ omega (arith, left, same, w.steps-is, c.pops.invariant.cost)
      | then-pops-test+then-bends w ↦ omega (arith, left, same, w.steps-is, w.if-bends.ensures.step, c.pops.invariant.cost)
    ]

pub returns-clause-hull : goal.returns-clause-hull
returns-clause-hull g c = λ n h at.
    pushed g.xs n c.args.stack.now.items h c.pops.left c.args.point c.push.new.self.items c.pops.invariant.few at (c.pops.invariant.ready n h at)
    (λ two. elim c.pops-test.branch [
      | else-pops-test w ↦ absurd (omega (arith, two, w.pops-test.false))
      | then-pops-test+then-bends w ↦
          rests g.xs n c.args.stack.now.items h c.pops.left w.index.result.now w.index-in-pops.result.now c.args.point two c.pops.invariant.few
          at (c.pops.invariant.ready n h at) w.index.ensures w.index-in-pops.ensures w.if-bends.ensures.bend
    ])
    (c.in_ok-push.ensures.items ∙ ap (λ (l : List Point). l ++ c.args.point ∷ []) c.truncate.ensures.items)

pub returns-clause-cost : goal.returns-clause-cost
returns-clause-cost g c =
    let left : length c.truncate.new.self.items ≡ c.pops.left = ap length c.truncate.ensures.items ∙ length-take-le c.pops.left c.args.stack.now.items c.pops.invariant.few in
    let more : length c.push.new.self.items ≡ length c.truncate.new.self.items + 1 = ap length c.in_ok-push.ensures.items ∙ length_push c.truncate.new.self.items c.args.point in
    elim c.pops-test.branch [
      | else-pops-test w ↦ omega (arith, left, more, w.steps-is, c.pops.invariant.cost)
      | then-pops-test+then-bends w ↦ omega (arith, left, more, w.steps-is, w.if-bends.ensures.step, c.pops.invariant.cost)
    ]
