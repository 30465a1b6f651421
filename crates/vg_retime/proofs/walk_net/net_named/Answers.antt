use Rattle.std.proofs.Common.{sym, ◌∙◌, ap, map, ℕ, List, slice_index, ◌<◌, length, subst}
use Rattle.std.proofs.lemmas.Result.{err_from_is_err_and}
use Rattle.ver_module.specs.Netlists.{IsSound}
use Rattle.vg_design.proofs.PartLemmas.{order_within, root_conn}
use Rattle.vg_design.proofs.ReadyLemmas.{none_there}
use Rattle.vg_design.specs.Designs.{name_of}
use Rattle.vg_design.specs.Steps.{MakesProblem}
use Rattle.vg_retime.specs.Passages.{above_at, end_in}
use Rattle.vg_retime.specs.Refusals.{FindsUnconstrainedHere}
use Rattle.vg_retime.proofs.RefusalLemmas.{large_here, passes_17, refused_below, unconstrained_here}
use Rattle.vg_retime.proofs.WalkNetLemmas.{net_made, sized_net}
use Rattle.vg_retime.proofs.walk_net.net_named.Goals as goal

pub returns-in_err-ready-clause-refused : goal.returns-in_err-ready-clause-refused
returns-in_err-ready-clause-refused c =
    let p = err_from_is_err_and c.from_residual.result c.from_residual.ensures.1 in
    rw (p.1, p.2) (refused_below c.args.design.now c.args.prefix.now c.args.name.now c.in_err-ready.field-0.0 c.in_err-ready.ensures.refused)

pub returns-in-Some-clause-refused : goal.returns-in-Some-clause-refused
returns-in-Some-clause-refused c =
    unconstrained_here c.args.design.now c.args.prefix.now c.args.name.now c.in_ok-ready.ready.pinned.net c.in_ok-ready.ensures.accepted c.in-Some.sink (rw c.in-Some.is at c.in_ok-sink.ensures)

pub returns-in_default-2-clause-refused : goal.returns-in_default-2-clause-refused
returns-in_default-2-clause-refused c =
    let ready = c.in_ok-ready.ready in
    large_here c.args.design.now c.args.prefix.now c.args.name.now ready.pinned.net c.in_ok-ready.ensures.accepted
    (none_there (FindsUnconstrainedHere c.args.design.now c.args.prefix.now ready.pinned.net) c.in_ok-sink.field-0 c.in_default.not-Some c.in_ok-sink.ensures)
    ready.tree.nodes ready.order c.in_ok-ready.ensures.ready.a_tree
    (none_there (MakesProblem c.args.design.now ready.pinned.net ready.tree.nodes ready.order) c.in_ok-problem.field-0 c.in_default-2.not-Some c.in_ok-problem.ensures)

pub above_of-above-requires-clause-driver : goal.above_of-above-requires-clause-driver
above_of-above-requires-clause-driver c =
    let ready = c.in_ok-ready.ready in
    subst (λ (xs : List ℕ). slice_index xs 0 < length ready.pinned.net.par.conns) (sym c.as_slice-order.ensures)
    (root_conn c.args.design.now ready.pinned.net ready.pinned.pins ready.tree.nodes ready.order c.in_ok-ready.ensures.ready)

pub into_names-requires : goal.into_names-requires
into_names-requires c =
    let ready = c.in_ok-ready.ready in
    order_within c.args.design.now ready.pinned.net ready.pinned.pins ready.tree.nodes ready.order c.in_ok-ready.ensures.ready

pub returns-clause-net : goal.returns-clause-net
returns-clause-net c =
    let ready = c.in_ok-ready.ready in
    let made = rw c.in-Some-2.is at c.in_ok-problem.ensures in
    net_made c.args.design.now c.args.prefix.now c.args.name.now ready.pinned.net ready.tree.nodes ready.order _
    (passes_17 c.args.design.now c.args.prefix.now c.args.name.now ready.pinned.net c.in_ok-ready.ensures.accepted
    (none_there (FindsUnconstrainedHere c.args.design.now c.args.prefix.now ready.pinned.net) c.in_ok-sink.field-0 c.in_default.not-Some c.in_ok-sink.ensures)
    ready.tree.nodes ready.order c.in_ok-ready.ensures.ready.a_tree made.1)
    c.in_ok-ready.ensures.accepted.joined c.in_ok-ready.ensures.ready.a_tree
    (record {
      tree = made.0.tree_is;
      ends = c.in_ok-ends.ensures ∙ ap (map (end_in c.args.design.now c.args.prefix.now ready.pinned.net)) c.as_slice-order.ensures;
      names = c.into_names.ensures;
      driver = made.0.driver;
      above = c.above_of-above.ensures ∙ ap (λ (xs : List ℕ). above_at c.args.design.now c.args.prefix.now ready.pinned.net (name_of ready.pinned.net.par (slice_index xs 0))) c.as_slice-order.ensures;
    })

pub returns-clause-sized : goal.returns-clause-sized
returns-clause-sized c =
    let ready = c.in_ok-ready.ready in
    let made = rw c.in-Some-2.is at c.in_ok-problem.ensures in
    sized_net c.args.design.now c.args.prefix.now ready.pinned.net ready.pinned.pins ready.tree.nodes ready.order _ c.in_ok-ready.ensures.ready made.1 (subst IsSound c.netlist.ensures c.is_sound.ensures)
    (record {
      tree = made.0.tree_is;
      ends = c.in_ok-ends.ensures ∙ ap (map (end_in c.args.design.now c.args.prefix.now ready.pinned.net)) c.as_slice-order.ensures;
      names = c.into_names.ensures;
      driver = made.0.driver;
      above = c.above_of-above.ensures ∙ ap (λ (xs : List ℕ). above_at c.args.design.now c.args.prefix.now ready.pinned.net (name_of ready.pinned.net.par (slice_index xs 0))) c.as_slice-order.ensures;
    })
