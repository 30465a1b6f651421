use Rattle.std.proofs.Common.{◌≡◌, ℕ, ◌+◌, ◌*◌, ◌<◌, List, length, vec_len, get_or, drop, refl, sym, ap, ◌∙◌, subst, arith, inl, inr, All, eq-eqb}
use Rattle.std.proofs.Math.Seq.{take-append_seam}
use Rattle.std.proofs.lemmas.Bool.{cases_lt, false≢true}
use Rattle.vg_convex.specs.Answers.{IsAnswer, IsRow, found_at}
use Rattle.vg_convex.specs.Places.{IsHullOf}
use Rattle.vg_convex.specs.declared.work.Point.{Point}
use Rattle.std.specs.List.{Contains}
use Rattle.elmore.specs.Allowances.{Allows}
use Rattle.vg_convex.specs.Orders.{AreByLimit, RiseInResistance, IsDriverOf}
use Rattle.vg_convex.specs.declared.shelf.Driver.{Driver}
use Rattle.vg_convex.proofs.Finds.{none_allowed}
use Rattle.vg_convex.proofs.Shelves.{limited_named, drivers_rise, part_of, driver_of, none_of_drivers, steps_of_parts}
use Rattle.vg_convex.proofs.Walks.{walk_begins, whole_hull}
use Rattle.vg_convex.proofs.search.find_all.Goals as goal

abbrev driver0 : Driver
driver0 = record { r = 0; k = 0; rep = 0 }

pub find_limited-requires : goal.find_limited-requires
find_limited-requires g c κs within =
    let (_, (list, (rise, (modest, (empty, (row, (shelf, rising))))))) = c.requires in (
      within,
      (
        walk_begins c.args.pool.now g.xs c.args.work.now.stack.items c.first-first.result rise modest empty (c.first-first.ensures g.xs list),
        (
          row,
          (
            subst (All (λ b. b < length c.args.reps.now)) (sym c.deref.ensures.value) (limited_named c.args.reps.now c.args.shelf.now shelf),
            (subst (AreByLimit c.args.reps.now) (sym c.deref.ensures.value) shelf.by_limit, rising),
          ),
        ),
      ),
    )

pub returns-in_err-next-clause-cost : goal.returns-in_err-next-clause-cost
returns-in_err-next-clause-cost g c = λ d less.
    let (_, (list, (rise, (modest, (empty, (row, (shelf, rising))))))) = c.requires in
    steps_of_parts c.args.reps.now c.args.shelf.now c.deref.result.now c.args.shelf.now.free.items c.find_limited.new.steps (c.args.steps.now + 3 * length g.xs) d shelf
    c.deref.ensures.value refl (omega (arith, c.in_err-next.ensures.cost d less))

pub returns-then-not-allows_any-clause-found : goal.returns-then-not-allows_any-clause-found
returns-then-not-allows_any-clause-found g c = λ b low.
    let (_, (list, (rise, (modest, (empty, (row, (shelf, rising))))))) = c.requires in
    elim (part_of c.args.reps.now c.args.shelf.now b shelf low) [
      | inl one ↦ c.in_ok-next.ensures.found b (subst (λ (l : List ℕ). Contains l b) (sym c.deref.ensures.value) one)
      | inr two ↦
          none_allowed c.args.allowed.now c.args.reps.now g.xs c.find_limited.new.work.found.items b c.in_ok-next.ensures.row
          (none_of_drivers c.args.allowed.now c.args.shelf.now.free.items b
          (subst (All (λ (x : Driver). Allows c.args.allowed.now x.rep → ⊥)) c.deref-2.ensures.value c.if-not-allows_any.ensures) two)
    ]

pub returns-then-not-allows_any-clause-cost : goal.returns-then-not-allows_any-clause-cost
returns-then-not-allows_any-clause-cost g c = λ d less.
    let (_, (list, (rise, (modest, (empty, (row, (shelf, rising))))))) = c.requires in
    steps_of_parts c.args.reps.now c.args.shelf.now c.deref.result.now c.args.shelf.now.free.items c.find_limited.new.steps (c.args.steps.now + 3 * length g.xs) d shelf
    c.deref.ensures.value refl (omega (arith, c.in_ok-next.ensures.cost d less))

pub returns-in_err-grow-clause-cost : goal.returns-in_err-grow-clause-cost
returns-in_err-grow-clause-cost g c = λ d less.
    let (_, (list, (rise, (modest, (empty, (row, (shelf, rising))))))) = c.requires in
    let (n, walk, cost) = c.in_ok-next.ensures.walk in
    steps_of_parts c.args.reps.now c.args.shelf.now c.deref.result.now c.args.shelf.now.free.items c.grow.new.steps (c.args.steps.now + 3 * length g.xs) d shelf
    c.deref.ensures.value refl (omega (arith, cost d less, c.in_err-grow.ensures.cost n walk))

pub returns-clause-cost : goal.returns-clause-cost
returns-clause-cost g c = λ d less.
    let (_, (list, (rise, (modest, (empty, (row, (shelf, rising))))))) = c.requires in
    let (n, walk, cost) = c.in_ok-next.ensures.walk in
    steps_of_parts c.args.reps.now c.args.shelf.now c.deref.result.now c.deref-3.result.now c.find_each_free.new.steps (c.args.steps.now + 3 * length g.xs) d shelf
    c.deref.ensures.value c.deref-3.ensures.value (omega (arith, cost d less, c.in_ok-grow.ensures.cost n walk, c.find_each_free.ensures.cost))

pub returns-then-is_empty-clause-cost : goal.returns-then-is_empty-clause-cost
returns-then-is_empty-clause-cost g c = λ d less.
    let (_, (list, (rise, (modest, (empty, (row, (shelf, rising))))))) = c.requires in
    let (n, walk, cost) = c.in_ok-next.ensures.walk in
    steps_of_parts c.args.reps.now c.args.shelf.now c.deref.result.now c.args.shelf.now.free.items c.grow.new.steps (c.args.steps.now + 3 * length g.xs) d shelf
    c.deref.ensures.value refl (omega (arith, cost d less, c.in_ok-grow.ensures.cost n walk))

pub find_each_free-requires : goal.find_each_free-requires
find_each_free-requires g c κs within =
    let (_, (list, (rise, (modest, (empty, (row, (shelf, rising))))))) = c.requires in
    let (n, walk, _) = c.in_ok-next.ensures.walk in
    let (far, over, _) = c.in_ok-grow.ensures.grown n walk in
    let some : 0 < length c.deref-4.result.now = elim (cases_lt 0 (vec_len c.grow.new.stack)) [
      | inl on ↦ omega (arith, on, c.grow.new.stack.ok.0, ap (λ (l : List Point). length l) c.deref-4.ensures.value)
      | inr off ↦
          let none : vec_len c.grow.new.stack ≡ 0 = omega arith in
          absurd (false≢true (c.if-is_empty.ensures ∙ eq-eqb (vec_len c.grow.new.stack) 0 none))
    ] in (
      within,
      (
        subst (All (IsDriverOf c.args.reps.now)) (sym c.deref-3.ensures.value) shelf.drivers,
        (
          subst (IsHullOf g.xs (length g.xs)) (sym c.deref-4.ensures.value) (whole_hull c.args.pool.now g.xs n c.grow.new.stack.items c.in_ok-grow.field-0 far over),
          (
            some,
            (
              subst (IsRow c.args.allowed.now c.args.reps.now) (sym c.deref_mut.ensures.value) c.in_ok-next.ensures.row,
              (rising, subst RiseInResistance (sym c.deref-3.ensures.value) (drivers_rise c.args.reps.now c.args.shelf.now.free.items shelf.drivers shelf.by_resistance)),
            ),
          ),
        ),
      ),
    )

pub returns-clause-found : goal.returns-clause-found
returns-clause-found g c = λ b low.
    let (_, (list, (rise, (modest, (empty, (row, (shelf, rising))))))) = c.requires in
    let long : c.find_limited.new.work.found.len ≡ length c.find_each_free.new.found = omega (arith, c.deref_mut.ensures.len, c.find_each_free.auto.found) in
    let written = take-append_seam c.find_each_free.new.found (drop (length c.find_each_free.new.found) c.find_limited.new.work.found.items) in
    rw (long, written) (elim (part_of c.args.reps.now c.args.shelf.now b shelf low) [
      | inl one ↦
          c.find_each_free.ensures.served.others b
          (subst (λ l. IsAnswer c.args.allowed.now c.args.reps.now g.xs b (found_at l b)) (sym c.deref_mut.ensures.value)
          (c.in_ok-next.ensures.found b (subst (λ (l : List ℕ). Contains l b) (sym c.deref.ensures.value) one)))
      | inr two ↦
          let (i, i_low, e) = driver_of c.args.shelf.now.free.items b two in
          let is : (get_or c.deref-3.result.now i driver0).rep ≡ b = ap (λ l. (get_or l i driver0).rep) c.deref-3.ensures.value ∙ e driver0 in
          subst (λ m. IsAnswer c.args.allowed.now c.args.reps.now g.xs m (found_at c.find_each_free.new.found m)) is
          (c.find_each_free.ensures.served.each i driver0 (omega arith) (omega (arith, i_low, ap (λ (l : List Driver). length l) c.deref-3.ensures.value)))
    ])
