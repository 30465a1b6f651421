use Rattle.std.proofs.Common.{◌+◌, ◌/◌, ◌<◌, ℕ, length, get_or, take, arith}
use Rattle.std.proofs.lemmas.List.{length-take}
use Rattle.std.proofs.lemmas.List.Edits.{length-between}
use Rattle.std.proofs.lemmas.List.Elements.{Contains-get_or}
use Rattle.std.specs.List.{Contains, between}
use Rattle.vg_front.specs.Tries.{IsTriedBy, AreNumbers}
use Rattle.vg_front.specs.declared.offer.Candidate.{Candidate}
use Rattle.vg_front.proofs.OfferLemmas.{adds_none}
use Rattle.vg_front.proofs.SeenLemmas.{left_in}
use Rattle.vg_front.proofs.TryLemmas.{low_numbers, high_numbers, later_in, later_run, earlier_run, high_in, halves_tried}
use Rattle.vg_front.specs.Offers.{OfSome}
use Rattle.vg_front.proofs.tries.+try_halves.Goals as goal

pub returns-then-len-eq0-clause-tried : goal.returns-then-len-eq0-clause-tried
returns-then-len-eq0-clause-tried t c =
    adds_none (OfSome c.args.numbers.now (IsTriedBy c.args.site c.args.reps.now c.args.xs.now)) c.args.made.now.items
    (λ q (b, (k, k_n, e), is). absurd (omega arith))

pub try_one-requires-clause-named : goal.try_one-requires-clause-named
try_one-requires-clause-named t c =
    let mid : ℕ = length c.args.numbers.now / 2 in
    c.requires.numbers.named (get_or c.args.numbers.now mid 0) (Contains-get_or c.args.numbers.now mid 0 (omega arith))

pub try_halves-requires : goal.try_halves-requires
try_halves-requires t c =
    let mid : ℕ = length c.args.numbers.now / 2 in
    let at : ℕ = c.in_ok-at.at in
    let inside : mid < length c.args.numbers.now = omega arith in
    let best = c.in_ok-at.ensures.latest in
    let numbers : AreNumbers c.args.reps.now (take mid c.args.numbers.now) =
    low_numbers c.args.site c.args.reps.now c.args.numbers.now c.args.xs.now c.requires.numbers c.requires.run c.requires.charge mid at inside best in
    let run = later_run c.args.site c.args.reps.now c.args.numbers.now c.args.xs.now c.requires.numbers c.requires.run c.requires.charge mid at inside best in
    let within : (x : Candidate) → Contains (between at (length c.args.xs.now) c.args.xs.now) x → Contains c.args.xs.now x =
    λ x found. later_in c.args.site c.args.reps.now c.args.numbers.now c.args.xs.now c.requires.numbers c.requires.run c.requires.charge mid at inside best
    x found in (
      omega (arith, length-take mid c.args.numbers.now),
      (
        c.requires.reps,
        (
          numbers,
          (
            run,
            (
              λ x found. c.requires.bounded x (within x found),
              (λ x found b b_in. c.requires.charge x (within x found) b (left_in c.args.numbers.now mid b b_in), c.in_ok-at.ensures.bests),
            ),
          ),
        ),
      ),
    )

pub try_halves-requires-2 : goal.try_halves-requires-2
try_halves-requires-2 t c =
    let mid : ℕ = length c.args.numbers.now / 2 in
    let at : ℕ = c.in_ok-at.at in
    let inside : mid < length c.args.numbers.now = omega arith in
    let best = c.in_ok-at.ensures.latest in
    let numbers : AreNumbers c.args.reps.now (between (mid + 1) (length c.args.numbers.now) c.args.numbers.now) =
    high_numbers c.args.site c.args.reps.now c.args.numbers.now c.args.xs.now c.requires.numbers c.requires.run c.requires.charge mid at inside best in
    let run = earlier_run c.args.site c.args.reps.now c.args.numbers.now c.args.xs.now c.requires.numbers c.requires.run c.requires.charge mid at inside best
    in (
      omega (arith, length-between c.args.numbers.now (mid + 1) (length c.args.numbers.now) (omega arith)),
      (
        c.requires.reps,
        (
          numbers,
          (
            run,
            (
              λ x found. c.requires.bounded x (left_in c.args.xs.now (at + 1) x found),
              (
                λ x found b b_in.
                    c.requires.charge x (left_in c.args.xs.now (at + 1) x found) b
                    (high_in c.args.site c.args.reps.now c.args.numbers.now c.args.xs.now c.requires.numbers c.requires.run c.requires.charge mid at inside best
                    b b_in),
                c.in_ok-try_halves.ensures.bests,
              ),
            ),
          ),
        ),
      ),
    )

pub returns-clause-tried : goal.returns-clause-tried
returns-clause-tried t c =
    let mid : ℕ = length c.args.numbers.now / 2 in
    let inside : mid < length c.args.numbers.now = omega arith in
    halves_tried c.args.site c.args.reps.now c.args.numbers.now c.args.xs.now c.requires.numbers c.requires.run c.requires.charge mid c.in_ok-at.at inside
    c.in_ok-at.ensures.latest c.args.made.now.items c.try_one.new.made.items c.try_halves.new.made.items c.try_halves-2.new.made.items
    c.in_ok-at.ensures.tried c.in_ok-try_halves.ensures.tried c.in_ok-try_halves-2.ensures.tried
