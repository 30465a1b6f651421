use Rattle.std.proofs.Common.{List, Option, ℤ, length, arith, rules, subst, sym, ap}
use Rattle.std.proofs.lemmas.Int.{to_z-of_z}
use mir.Syntax.{w128}
use mir.Val.{SFits}
use Rattle.sta_graph.specs.Paths.{IsLeast, IsFirstEnd}
use Rattle.sta_graph.specs.Passes.{time_at}
use Rattle.sta_graph.specs.Begins.{IsHeldWithin, AreDifferences}
use Rattle.sta_graph.specs.Answers.{AreSlacks}
use Rattle.sta_graph.proofs.AnswerLaws.{held_forward, held_backward, all_slacks, worst_found, some_end}
use Rattle.sta_graph.proofs.slacks.slacks_by.Goals as goal

pub net_slacks-requires-clause-arrivals : goal.net_slacks-requires-clause-arrivals
net_slacks-requires-clause-arrivals c = λ v v_n.
    let is = c.deref-2.ensures.value in
    subst (λ (ts : List (Option ℤ)). IsHeldWithin (time_at ts v)) (sym is)
    (held_forward c.args.g.now c.args.order.now c.in_ok-arrivals.arrivals.items v c.requires.graph c.requires.small c.requires.order c.in_ok-arrivals.ensures
    (omega (arith, ap length is, c.in_ok-arrivals.ensures.count)))

pub net_slacks-requires-clause-required : goal.net_slacks-requires-clause-required
net_slacks-requires-clause-required c = λ v v_n.
    let is = c.deref-2.ensures.value in
    subst (λ (ts : List (Option ℤ)). IsHeldWithin (time_at ts v)) (sym c.deref-3.ensures.value)
    (held_backward c.args.g.now c.args.order.now c.in_ok-required.required.items v c.requires.graph c.requires.small c.requires.order c.in_ok-required.ensures
    (omega (arith, ap length is, c.in_ok-arrivals.ensures.count)))

pub worst_end-requires-clause-arrivals : goal.worst_end-requires-clause-arrivals
worst_end-requires-clause-arrivals c = λ v v_n.
    subst (λ (ts : List (Option ℤ)). IsHeldWithin (time_at ts v)) (sym c.deref-5.ensures.value)
    (held_forward c.args.g.now c.args.order.now c.in_ok-arrivals.arrivals.items v c.requires.graph c.requires.small c.requires.order c.in_ok-arrivals.ensures v_n)

pub returns-clause-worst : goal.returns-clause-worst
returns-clause-worst c =
    let fits : SFits w128 c.in-Some.end.slack = search rules in
    subst (IsLeast c.args.g.now) (sym (to_z-of_z w128 c.in-Some.end.slack fits))
    (worst_found c.args.g.now c.args.order.now c.in_ok-leading.leading.items c.deref-4.result.now c.in_ok-arrivals.arrivals.items c.deref-5.result.now c.in-Some.end
    c.requires.graph c.requires.order c.in_ok-leading.ensures c.in_ok-arrivals.ensures c.deref-4.ensures.value c.deref-5.ensures.value c.in-Some.ensures).0

pub returns-clause-end : goal.returns-clause-end
returns-clause-end c =
    let fits : SFits w128 c.in-Some.end.slack = search rules in
    subst (λ (x : ℤ). IsFirstEnd c.args.g.now x c.in-Some.end.sink) (sym (to_z-of_z w128 c.in-Some.end.slack fits))
    (worst_found c.args.g.now c.args.order.now c.in_ok-leading.leading.items c.deref-4.result.now c.in_ok-arrivals.arrivals.items c.deref-5.result.now c.in-Some.end
    c.requires.graph c.requires.order c.in_ok-leading.ensures c.in_ok-arrivals.ensures c.deref-4.ensures.value c.deref-5.ensures.value c.in-Some.ensures).1

pub returns-clause-nets : goal.returns-clause-nets
returns-clause-nets c =
    subst (AreSlacks c.args.g.now) (sym c.from_vec.ensures)
    (all_slacks c.args.g.now c.args.order.now c.in_ok-arrivals.arrivals.items c.in_ok-required.required.items c.in_ok-nets.nets.items c.requires.graph c.requires.order
    c.in_ok-arrivals.ensures c.in_ok-required.ensures
    (subst (λ (ts : List (Option ℤ)). AreDifferences ts c.in_ok-required.required.items (length ts) c.in_ok-nets.nets.items) c.deref-2.ensures.value
    (subst (λ (ts : List (Option ℤ)). AreDifferences c.deref-2.result.now ts (length c.deref-2.result.now) c.in_ok-nets.nets.items) c.deref-3.ensures.value c.in_ok-nets.ensures)))

pub unreachable-requires : goal.unreachable-requires
unreachable-requires c =
    some_end c.args.g.now c.args.order.now c.in_ok-leading.leading.items c.deref-4.result.now c.deref-5.result.now c.in_ok-required.required.items
    c.requires.graph c.requires.order c.requires.some c.in_ok-leading.ensures c.in_ok-required.ensures c.deref-4.ensures.value c.in-None.ensures
