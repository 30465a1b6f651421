use Rattle.std.proofs.Common.{◌<◌, ◌≡◌, ℕ, List, length, arith, get_or, subst, ap}
use Rattle.sta_graph.proofs.AnswerLaws.{whole_where_none, first_after_cycle}
use Rattle.sta_graph.proofs.slacks.lead_order.Goals as goal

pub returns-in-Some-clause-fault : goal.returns-in-Some-clause-fault
returns-in-Some-clause-fault c =
    let is = c.deref.ensures.value in
    let e = c.in-Some.ensures in
    first_after_cycle c.args.g.now c.in-Ok.peeled.order.items c.in-Ok.peeled.counts.items c.in-Some.net c.in-Ok.ensures.peeled c.in-Ok.ensures.zero c.in-Ok.ensures.some
    (omega (arith, e.within, ap length is, c.in-Ok.ensures.counts)) (subst (λ (cs : List ℕ). 0 < get_or cs c.in-Some.net 0) is e.counted)
    (subst (λ (cs : List ℕ). (u : ℕ) → u < c.in-Some.net → get_or cs u 0 ≡ 0) is e.before)

pub returns-in-None-clause-order : goal.returns-in-None-clause-order
returns-in-None-clause-order c =
    let is = c.deref.ensures.value in
    whole_where_none c.args.g.now c.in-Ok.peeled.order.items c.in-Ok.peeled.counts.items c.requires.graph c.in-Ok.ensures.peeled c.in-Ok.ensures.zero
    (λ v v_n. subst (λ (cs : List ℕ). get_or cs v 0 ≡ 0) is (c.in-None.ensures v (omega (arith, ap length is, c.in-Ok.ensures.counts))))
