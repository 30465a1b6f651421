use Rattle.std.proofs.Common.{◌≡◌, ◌+◌, ◌-◌, ◌/◌, ◌<◌, ◌<ℤ◌, ◌≤ℤ◌, length, arith, subst, sym, pos, get_or}
use Rattle.vg_convex.specs.Hulls.{value}
use Rattle.vg_convex.specs.Places.{row}
use Rattle.vg_convex.proofs.Halves.{one_step_more}
use Rattle.vg_convex.proofs.Numbers.{modest_point}
use Rattle.vg_convex.proofs.Places.{peak_of, worth_less, worth_no_more, points_rise}
use Rattle.vg_convex.proofs.hull.greatest_on.Goals as goal

pub is_less-requires-clause-a : goal.is_less-requires-clause-a
is_less-requires-clause-a g c =
    let (n, h) = c.requires.1.0 in
    modest_point g.xs (get_or c.args.stack.now (c.search.low + (c.search.high - c.search.low) / 2) (record { q = pos 0; c = 0; tag = 0 })) (h.numbers (c.search.low + (c.search.high - c.search.low) / 2)) h.modest
    (h.points (c.search.low + (c.search.high - c.search.low) / 2) (record { q = pos 0; c = 0; tag = 0 }) (omega (arith, c.search.invariant.inside, c.search-test.true)))

pub is_less-requires-clause-b : goal.is_less-requires-clause-b
is_less-requires-clause-b g c =
    let (n, h) = c.requires.1.0 in
    modest_point g.xs (get_or c.args.stack.now (c.search.low + (c.search.high - c.search.low) / 2 + 1) (record { q = pos 0; c = 0; tag = 0 })) (h.numbers (c.search.low + (c.search.high - c.search.low) / 2 + 1)) h.modest
    (h.points (c.search.low + (c.search.high - c.search.low) / 2 + 1) (record { q = pos 0; c = 0; tag = 0 }) (omega (arith, c.search.invariant.inside, c.search-test.true)))

pub is_less-requires-clause-a_b : goal.is_less-requires-clause-a_b
is_less-requires-clause-a_b g c =
    let (n, h) = c.requires.1.0 in
    let low : c.search.low + (c.search.high - c.search.low) / 2 < length c.args.stack.now = omega (arith, c.search.invariant.inside, c.search-test.true) in
    let next : c.search.low + (c.search.high - c.search.low) / 2 + 1 < length c.args.stack.now = omega (arith, c.search.invariant.inside, c.search-test.true) in
    points_rise g.xs n c.args.stack.now h (c.search.low + (c.search.high - c.search.low) / 2) (c.search.low + (c.search.high - c.search.low) / 2 + 1)
    (get_or c.args.stack.now (c.search.low + (c.search.high - c.search.low) / 2) (record { q = pos 0; c = 0; tag = 0 }))
    (get_or c.args.stack.now (c.search.low + (c.search.high - c.search.low) / 2 + 1) (record { q = pos 0; c = 0; tag = 0 })) (omega arith) next
    (h.points (c.search.low + (c.search.high - c.search.low) / 2) (record { q = pos 0; c = 0; tag = 0 }) low)
    (h.points (c.search.low + (c.search.high - c.search.low) / 2 + 1) (record { q = pos 0; c = 0; tag = 0 }) next)

pub search-preserved-then-is_less : goal.search-preserved-then-is_less
search-preserved-then-is_less g c = record {
  order = omega (arith, c.search-test.true);
  inside = c.search.invariant.inside;
  before = λ n h j e.
      let at : j ≡ c.search.low + (c.search.high - c.search.low) / 2 = omega (arith, e) in
      let low : c.search.low + (c.search.high - c.search.low) / 2 < length c.args.stack.now = omega (arith, c.search.invariant.inside, c.search-test.true) in
      let next : c.search.low + (c.search.high - c.search.low) / 2 + 1 < length c.args.stack.now = omega (arith, c.search.invariant.inside, c.search-test.true) in
      subst (λ m. value c.args.r (row g.xs (h.numbers m))
      <ℤ value c.args.r (row g.xs (h.numbers (c.search.low + (c.search.high - c.search.low) / 2 + 1)))) (sym at)
      (worth_less g.xs c.args.r (h.numbers (c.search.low + (c.search.high - c.search.low) / 2)) (h.numbers (c.search.low + (c.search.high - c.search.low) / 2 + 1))
      (get_or c.args.stack.now (c.search.low + (c.search.high - c.search.low) / 2) (record { q = pos 0; c = 0; tag = 0 })) (get_or c.args.stack.now (c.search.low + (c.search.high - c.search.low) / 2 + 1) (record { q = pos 0; c = 0; tag = 0 }))
      (h.points (c.search.low + (c.search.high - c.search.low) / 2) (record { q = pos 0; c = 0; tag = 0 }) low)
      (h.points (c.search.low + (c.search.high - c.search.low) / 2 + 1) (record { q = pos 0; c = 0; tag = 0 }) next)
      c.if-is_less.ensures.order);
  after = c.search.invariant.after;
  cost = λ d top_d.
      let (e, so_far, less) = one_step_more c.search.steps c.args.steps.now d (c.search.high - c.search.low) (c.search.high - (c.search.low + (c.search.high - c.search.low) / 2 + 1))
      (omega (arith, c.search-test.true)) (omega (arith, c.search-test.true)) (c.search.invariant.cost d top_d) in
      (e, omega (arith, so_far, c.if-is_less.ensures.step), less);
}

pub search-preserved : goal.search-preserved
search-preserved g c = record {
  order = omega arith;
  inside = omega (arith, c.search.invariant.inside, c.search-test.true);
  before = c.search.invariant.before;
  after = λ n h next.
      worth_no_more g.xs c.args.r (h.numbers (c.search.low + (c.search.high - c.search.low) / 2 + 1)) (h.numbers (c.search.low + (c.search.high - c.search.low) / 2))
      (get_or c.args.stack.now (c.search.low + (c.search.high - c.search.low) / 2 + 1) (record { q = pos 0; c = 0; tag = 0 })) (get_or c.args.stack.now (c.search.low + (c.search.high - c.search.low) / 2) (record { q = pos 0; c = 0; tag = 0 }))
      (h.points (c.search.low + (c.search.high - c.search.low) / 2 + 1) (record { q = pos 0; c = 0; tag = 0 }) (omega (arith, c.search.invariant.inside, c.search-test.true)))
      (h.points (c.search.low + (c.search.high - c.search.low) / 2) (record { q = pos 0; c = 0; tag = 0 }) (omega (arith, c.search.invariant.inside, c.search-test.true)))
      c.if-is_less.ensures.order;
  cost = λ d top_d.
      let (e, so_far, less) = one_step_more c.search.steps c.args.steps.now d (c.search.high - c.search.low) (c.search.low + (c.search.high - c.search.low) / 2 - c.search.low)
      (omega (arith, c.search-test.true)) (omega (arith, c.search-test.true)) (c.search.invariant.cost d top_d) in
      (e, omega (arith, so_far, c.if-is_less.ensures.step), less);
}

pub returns-clause-greatest : goal.returns-clause-greatest
returns-clause-greatest g c = λ n h.
    let at : c.search.high ≡ c.search.low = omega (arith, c.search-test.false, c.search.invariant.order) in
    let low : c.search.low < length c.args.stack.now = omega (arith, at, c.search.invariant.inside) in (
      h.numbers c.search.low,
      h.points c.search.low (record { q = pos 0; c = 0; tag = 0 }) low,
      peak_of g.xs n c.args.stack.now h c.args.r c.search.low low (c.search.invariant.before n h)
          (subst (λ m. m + 1 < length c.args.stack.now → value c.args.r (row g.xs (h.numbers (m + 1))) ≤ℤ value c.args.r (row g.xs (h.numbers m))) at (c.search.invariant.after n h)),
    )
