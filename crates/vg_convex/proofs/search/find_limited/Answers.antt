use Rattle.std.proofs.Common.{◌≡◌, ◌<◌, length, get_or, slice_index, refl, ◌∙◌, subst, arith}
use Rattle.std.proofs.lemmas.List.{get_or_default}
use Rattle.vg_convex.specs.Answers.{IsAnswer, found_at}
use Rattle.vg_convex.proofs.Walks.{find_begins, find_more}
use Rattle.vg_convex.proofs.Finds.{written_row, written_answer}
use Rattle.vg_convex.proofs.search.find_limited.Goals as goal

pub reps-init : goal.reps-init
reps-init g c =
    let (_, (walk, (row, _))) = c.requires in
    record {
      walk = find_begins c.args.pool.now g.xs c.args.reps.now c.args.order.now c.args.work.now.stack.items c.args.first c.args.steps.now walk;
      row = row;
      answers = λ i low. absurd (omega (arith, low));
    }

pub find_next-requires : goal.find_next-requires
find_next-requires g c κs within =
    let (_, (walk, (row, (named, (by_limit, rising))))) = c.requires in
    let f = c.reps.invariant.walk in
    let low = named c.reps.number-index 0 c.reps-test.true in (
      within,
      (
        (f.seen, f.walk, λ i i_low. f.within c.reps.number-index i (omega arith) c.reps-test.true i_low),
        (low, (omega (arith, low, c.reps.invariant.row.room), (c.reps.invariant.row.none (get_or c.args.order.now c.reps.number-index 0), rising))),
      ),
    )

pub reps-preserved : goal.reps-preserved
reps-preserved g c =
    let (_, (walk, (row, (named, (by_limit, rising))))) = c.requires in
    let f = c.reps.invariant.walk in
    let (far, cost) = c.in_ok-next.ensures.walk f.seen f.walk in
    let (found, is, e) = c.in_ok-next.ensures.found in
    let low : get_or c.args.order.now c.reps.number-index 0 < length c.reps.work.found.items = omega (arith, named c.reps.number-index 0 c.reps-test.true, c.reps.invariant.row.room) in
    record {
      walk = find_more c.args.pool.now g.xs c.args.reps.now c.args.order.now c.reps.number-index (get_or c.args.order.now c.reps.number-index 0) c.reps.work.stack.items
          c.find_next.new.work.stack.items c.reps.next c.in_ok-next.next c.args.steps.now c.reps.steps c.find_next.new.steps by_limit c.reps-test.true refl f far cost;
      row = written_row c.args.allowed.now c.args.reps.now g.xs (get_or c.args.order.now c.reps.number-index 0) found c.reps.work.found.items c.find_next.new.work.found.items
          is e low c.reps.invariant.row;
      answers = written_answer c.args.allowed.now c.args.reps.now g.xs c.args.order.now c.reps.number-index found c.reps.work.found.items c.find_next.new.work.found.items
          is e low c.reps.invariant.answers;
    }

pub returns-clause-found : goal.returns-clause-found
returns-clause-found g c = λ b (k, low, e).
    let at : slice_index c.args.order.now k ≡ b = get_or_default c.args.order.now k 0 b low ∙ e in
    let end : k < c.reps.number-index = omega (arith, low, c.reps-test.false, c.reps.auto.number-index-end) in
    subst (λ m. IsAnswer c.args.allowed.now c.args.reps.now g.xs m (found_at c.reps.work.found.items m)) at (c.reps.invariant.answers k end)
