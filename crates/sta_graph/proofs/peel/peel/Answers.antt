use Rattle.std.proofs.Common.{ℕ, arith, sym, List, length, subst}
use Rattle.sta_graph.specs.Peeling.{IsPeeling, AreFree}
use Rattle.sta_graph.proofs.PeelLaws.{peel_begin, peel_end, count_zero, count_some, ready_few}
use Rattle.sta_graph.proofs.peel.peel.Goals as goal

pub nets-smaller : goal.nets-smaller
nets-smaller c = omega (arith, ready_few c.args.g.now c.nets.peel.order.items c.nets.peel.ready.items c.nets.peel.counts.items c.nets.p 0 c.nets.invariant)

pub returns-clause-peeled : goal.returns-clause-peeled
returns-clause-peeled c =
    peel_end c.args.g.now c.nets.peel.order.items c.nets.peel.ready.items c.nets.peel.counts.items c.nets.p c.requires.graph (omega arith) c.nets.invariant

pub returns-clause-zero : goal.returns-clause-zero
returns-clause-zero c = λ v. count_zero c.args.g.now c.nets.peel.order.items c.nets.peel.ready.items c.nets.peel.counts.items c.nets.p 0 v c.nets.invariant

pub returns-clause-some : goal.returns-clause-some
returns-clause-some c = λ v. count_some c.args.g.now c.nets.peel.order.items c.nets.peel.ready.items c.nets.peel.counts.items c.nets.p 0 v c.nets.invariant

pub nets-init : goal.nets-init
nets-init c =
    subst (λ (os : List ℕ). IsPeeling c.args.g.now os c.in_ok-ready.ready.items c.in_ok-counts.counts.items 0 0) (sym c.new.ensures.items)
    (peel_begin c.args.g.now c.in_ok-counts.counts.items c.in_ok-ready.ready.items c.in_ok-counts.ensures
    (subst (λ (cs : List ℕ). AreFree cs (length cs) c.in_ok-ready.ready.items) c.deref.ensures.value c.in_ok-ready.ensures))
