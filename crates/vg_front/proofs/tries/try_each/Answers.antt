use Rattle.std.proofs.Common.{rules, ℕ, ◌<◌, length, get_or, arith, None}
use Rattle.std.proofs.lemmas.List.Elements.{Contains-get_or}
use Rattle.vg_front.specs.Tries.{IsTriedBy}
use Rattle.vg_front.proofs.OfferLemmas.{adds_begin, adds_more, adds_all}
use Rattle.vg_front.proofs.TryLemmas.{bests_set}
use Rattle.vg_front.proofs.tries.try_each.Goals as goal

pub numbers-init : goal.numbers-init
numbers-init c = record { tried = adds_begin c.args.numbers.now (IsTriedBy c.args.site c.args.reps.now c.args.xs.now) c.args.made.now.items; bests = c.requires.bests }

pub bounds-reps-at : goal.bounds-reps-at
bounds-reps-at c =
    c.requires.numbers.named (get_or c.args.numbers.now c.numbers.number-index 0)
    (Contains-get_or c.args.numbers.now c.numbers.number-index 0 c.numbers-test.true)

pub slice_copy_out-best : goal.slice_copy_out-best
slice_copy_out-best c = omega (
  arith,
  c.numbers.invariant.bests.one_each,
  c.requires.numbers.named (get_or c.args.numbers.now c.numbers.number-index 0)
      (Contains-get_or c.args.numbers.now c.numbers.number-index 0 c.numbers-test.true),
)

pub drive-requires-clause-best : goal.drive-requires-clause-best
drive-requires-clause-best c =
    let b : ℕ = get_or c.args.numbers.now c.numbers.number-index 0 in
    let named : b < length c.args.reps.now =
    c.requires.numbers.named b (Contains-get_or c.args.numbers.now c.numbers.number-index 0 c.numbers-test.true) in
    c.numbers.invariant.bests.reached (get_or c.numbers.bests b None)
    (Contains-get_or c.numbers.bests b None (omega (arith, named, c.numbers.invariant.bests.one_each)))

pub bounds-bests-at : goal.bounds-bests-at
bounds-bests-at c = omega (
  arith,
  c.numbers.invariant.bests.one_each,
  c.requires.numbers.named (get_or c.args.numbers.now c.numbers.number-index 0)
      (Contains-get_or c.args.numbers.now c.numbers.number-index 0 c.numbers-test.true),
)

pub numbers-preserved : goal.numbers-preserved
numbers-preserved c =
    let b : ℕ = get_or c.args.numbers.now c.numbers.number-index 0 in
    record {
      tried =
          adds_more c.args.numbers.now (IsTriedBy c.args.site c.args.reps.now c.args.xs.now) c.numbers.number-index 0 c.args.made.now.items
          c.numbers.made.items c.drive.new.made.items c.numbers-test.true c.numbers.invariant.tried c.in_ok-drive.ensures.driven;
      bests =
          bests_set (IsTriedBy c.args.site c.args.reps.now c.args.xs.now b) c.args.reps.now c.numbers.made.items c.drive.new.made.items c.numbers.bests b
          c.drive.new.best c.numbers.invariant.bests c.in_ok-drive.ensures.driven c.in_ok-drive.ensures.best;
    }

pub returns-clause-tried : goal.returns-clause-tried
returns-clause-tried c =
    adds_all c.args.numbers.now (IsTriedBy c.args.site c.args.reps.now c.args.xs.now) c.numbers.number-index c.args.made.now.items c.numbers.made.items
    (search rules) c.numbers.invariant.tried
