use Rattle.std.proofs.Common.{◌+◌, ◌≤◌, ◌^◌, ℕ, List, get_or, refl, subst, arith, inl, inr, ◌∷◌}
use Rattle.std.proofs.lemmas.Bool.{cases_eq, false≢true}
use Rattle.std.proofs.lemmas.List.Elements.{Contains-get_or}
use Rattle.std.specs.BinaryHeap.{heap_items}
use Rattle.std.specs.List.Sorted.{IsPermutation}
use Rattle.std.specs.declared.cmp.Reverse.{Reverse}
use Rattle.elmore.specs.Legal.{IsWithin}
use Rattle.vg_front.specs.declared.runs.Run.{Run}
use Rattle.vg_front.specs.declared.turns.Turn.{Turn}
use Rattle.vg_front.proofs.ListLemmas.{any_default}
use Rattle.vg_front.proofs.TurnLemmas.{no_run, put_none, put_one}
use Rattle.vg_front.proofs.turns.put.Goals as goal

pub seconds-init : goal.seconds-init
seconds-init c = record { same = refl; none = λ k low high may. absurd (omega arith) }

pub overflow_add-cost : goal.overflow_add-cost
overflow_add-cost c =
    let small : (get_or c.args.seconds.now c.seconds.second no_run).cost ≤ 10 ^ 17 =
    c.requires.seconds (get_or c.args.seconds.now c.seconds.second no_run)
    (Contains-get_or c.args.seconds.now c.seconds.second no_run c.seconds-test.true) in
    omega (arith, small, c.requires.first)

pub seconds-preserved : goal.seconds-preserved
seconds-preserved c = record {
  same = c.seconds.invariant.same;
  none = λ k low high may. elim (cases_eq k c.seconds.second) [
    | inl e ↦
        absurd (false≢true (c.if-not-is_within.ensures.1
        (subst (λ (n : ℕ). IsWithin c.args.cap (c.args.first.cost + (get_or c.args.seconds.now n no_run).cost)) e (may.1 no_run))))
    | inr other ↦ c.seconds.invariant.none k low (omega (arith, high, other)) may
  ];
}

pub returns-in-seconds : goal.returns-in-seconds
returns-in-seconds c =
    put_one c.args.cap c.args.first c.args.seconds.now c.args.from (heap_items c.args.turns.now) (heap_items c.push.new.self)
    (record { 0 = record { cost = c.args.first.cost + (get_or c.args.seconds.now c.seconds.second no_run).cost; first = c.args.first; second = c.seconds.second } })
    refl
    c.seconds.auto.second (
      c.seconds-test.true,
      λ d.
          subst (λ (x : Run). IsWithin c.args.cap (c.args.first.cost + x.cost)) (any_default c.args.seconds.now c.seconds.second no_run d c.seconds-test.true)
          (c.if-not-is_within.ensures.0 refl),
    )
    c.seconds.invariant.none
    (subst (λ (l : List (Reverse Turn)). IsPermutation
    (record { 0 = record { cost = c.args.first.cost + (get_or c.args.seconds.now c.seconds.second no_run).cost; first = c.args.first; second = c.seconds.second } }
    ∷ l) (heap_items c.push.new.self)) c.seconds.invariant.same c.in_ok-push.ensures.permutation)

pub returns : goal.returns
returns c =
    put_none c.args.cap c.args.first c.args.seconds.now c.args.from (heap_items c.args.turns.now) (heap_items c.seconds.turns) c.seconds.invariant.same
    (λ k low may. c.seconds.invariant.none k low (omega (arith, may.0, c.seconds-test.false)) may)
