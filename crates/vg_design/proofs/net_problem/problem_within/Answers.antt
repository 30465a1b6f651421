use Rattle.std.proofs.Common.{◌≡◌, ◌<◌, ◌≤◌, List, length, is_some, rules, sym, ap, ◌∙◌, subst, Bool, false, get_or}
use Rattle.std.specs.List.{All, list_any}
use Rattle.elmore.specs.Problems.{AreRising, is_sink}
use Rattle.spef_net.specs.declared.net.ParNet.{ParNet}
use Rattle.spef_wire.specs.Refusals.{most_capacitors}
use Rattle.vg_design.specs.Parts.{allowed_in, free_of, sinks_of}
use Rattle.vg_design.proofs.PartLemmas.{allowed_each, free_each, made_is, order_within, root_conn, root_not_free, sink_not_free, sinks_each, some_sink}
use Rattle.vg_design.proofs.net_problem.problem_within.Goals as goal

pub driver_at-requires-clause-at : goal.driver_at-requires-clause-at
driver_at-requires-clause-at c = root_conn c.args.design.now c.args.net.now.net c.args.net.now.pins c.args.tree.now c.args.order.now c.requires.ready

pub free_of-requires : goal.free_of-requires
free_of-requires c = record {
  nodes = subst (λ (par : ParNet). All (λ v. v < length par.nodes) c.args.order.now) (sym c.requires.par)
      (order_within c.args.design.now c.args.net.now.net c.args.net.now.pins c.args.tree.now c.args.order.now c.requires.ready);
}

pub allowed_of-requires : goal.allowed_of-requires
allowed_of-requires c = record {
  nodes = subst (λ (par : ParNet). All (λ v. v < length par.nodes) c.args.order.now) (sym c.requires.par)
      (order_within c.args.design.now c.args.net.now.net c.args.net.now.pins c.args.tree.now c.args.order.now c.requires.ready);
}

pub new-requires-clause-sinks_each : goal.new-requires-clause-sinks_each
new-requires-clause-sinks_each c =
    sinks_each c.args.design.now c.args.net.now.net c.args.net.now.pins c.args.tree.now c.args.order.now c.requires.ready c.from_vec-sinks.result c.in_ok-tree.tree.nodes
    (c.from_vec-sinks.ensures ∙ c.in_ok-sinks_of.ensures ∙ (λ i. sinks_of (c.cons-cons.ensures i) (c.requires.par i) c.args.order.now)) c.in_ok-tree.ensures

pub new-requires-clause-free_each : goal.new-requires-clause-free_each
new-requires-clause-free_each c =
    let items : c.deref-3.result.now ≡ c.in_ok-free.free.items = search rules in
    free_each c.args.design.now c.args.net.now.net c.args.net.now.pins c.args.tree.now c.args.order.now c.requires.ready c.deref-3.result.now c.in_ok-tree.tree.nodes
    (items ∙ c.in_ok-free.ensures ∙ (λ i. free_of (c.cons-cons.ensures i) (c.requires.par i) c.args.order.now)) c.in_ok-tree.ensures

pub new-requires-clause-some_sink : goal.new-requires-clause-some_sink
new-requires-clause-some_sink c =
    ap (list_any is_some) (c.from_vec-sinks.ensures ∙ c.in_ok-sinks_of.ensures ∙ (λ i. sinks_of (c.cons-cons.ensures i) (c.requires.par i) c.args.order.now))
    ∙ some_sink c.args.design.now c.args.net.now.net c.args.net.now.pins c.args.tree.now c.args.order.now c.requires.ready

pub new-requires-clause-root : goal.new-requires-clause-root
new-requires-clause-root c =
    let items : c.deref-3.result.now ≡ c.in_ok-free.free.items = search rules in
    ap (λ (xs : List Bool). get_or xs 0 false) (items ∙ c.in_ok-free.ensures ∙ (λ i. free_of (c.cons-cons.ensures i) (c.requires.par i) c.args.order.now))
    ∙ root_not_free c.args.design.now c.args.net.now.net c.args.net.now.pins c.args.tree.now c.args.order.now c.requires.ready

pub new-requires-clause-no_sink : goal.new-requires-clause-no_sink
new-requires-clause-no_sink c = λ v sink.
    let items : c.deref-3.result.now ≡ c.in_ok-free.free.items = search rules in
    let sinks = c.from_vec-sinks.ensures ∙ c.in_ok-sinks_of.ensures ∙ (λ i. sinks_of (c.cons-cons.ensures i) (c.requires.par i) c.args.order.now) in
    ap (λ (xs : List Bool). get_or xs v false) (items ∙ c.in_ok-free.ensures ∙ (λ i. free_of (c.cons-cons.ensures i) (c.requires.par i) c.args.order.now))
    ∙ sink_not_free c.args.design.now c.args.net.now.net c.args.net.now.pins c.args.tree.now c.args.order.now c.requires.ready v (ap (λ s. is_sink s v) (sym sinks) ∙ sink)

pub new-requires-clause-rising : goal.new-requires-clause-rising
new-requires-clause-rising c = subst AreRising (sym c.from_vec-reps.ensures) c.in_ok-reps_of.ensures.rising

pub new-requires-clause-allowed : goal.new-requires-clause-allowed
new-requires-clause-allowed c =
    allowed_each c.args.design.now c.args.net.now.net c.args.net.now.pins c.args.tree.now c.args.order.now c.requires.ready c.from_vec-allowed.result c.in_ok-tree.tree.nodes c.from_vec-reps.result
    (c.from_vec-allowed.ensures ∙ c.in_ok-allowed_of.ensures ∙ ap (λ (par : ParNet). allowed_in c.args.design.now par c.args.order.now) c.requires.par) c.in_ok-tree.ensures (c.from_vec-reps.ensures ∙ c.in_ok-reps_of.ensures.reps)

pub returns : goal.returns
returns c =
    let items : c.deref-3.result.now ≡ c.in_ok-free.free.items = search rules in
    let made = c.in_ok-made.ensures in
    made_is c.args.design.now c.args.net.now.net c.args.tree.now c.args.order.now c.in_ok-made.made c.in_ok-tree.tree.nodes c.in_ok-driver.driver c.from_vec-sinks.result c.deref-3.result.now c.from_vec-reps.result c.from_vec-allowed.result
    c.in_ok-tree.ensures c.in_ok-driver.ensures (c.from_vec-sinks.ensures ∙ c.in_ok-sinks_of.ensures ∙ (λ i. sinks_of (c.cons-cons.ensures i) (c.requires.par i) c.args.order.now))
    (items ∙ c.in_ok-free.ensures ∙ (λ i. free_of (c.cons-cons.ensures i) (c.requires.par i) c.args.order.now)) (c.from_vec-reps.ensures ∙ c.in_ok-reps_of.ensures.reps)
    (c.from_vec-allowed.ensures ∙ c.in_ok-allowed_of.ensures ∙ ap (λ (par : ParNet). allowed_in c.args.design.now par c.args.order.now) c.requires.par)
    (subst (λ (par : ParNet). length par.caps ≤ most_capacitors) c.requires.par c.requires.caps) made.within made.nodes made.driver made.sinks made.places made.reps made.allowed
