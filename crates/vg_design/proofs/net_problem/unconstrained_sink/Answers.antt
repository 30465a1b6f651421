use Rattle.std.proofs.Common.{◌≡◌, ◌<◌, Some, length, subst, sym, ◌∙◌}
use Rattle.std.specs.List.{find}
use Rattle.vg_design.specs.Refusals.{is_unconstrained}
use Rattle.vg_design.specs.declared.ready.ReadyNet.{ReadyNet}
use Rattle.vg_design.proofs.ReadyLemmas.{found_within}
use Rattle.vg_design.proofs.net_problem.unconstrained_sink.Goals as goal

pub name_of-requires : goal.name_of-requires
name_of-requires c =
    let sink = c.in-Some.sink in
    let rows = c.cons.result.now in
    let found = subst (λ (r : ReadyNet). find (is_unconstrained rows r.pinned.net.par) r.pinned.net.par.conns ≡ Some sink) c.ready.view_is (sym c.first_unconstrained.ensures ∙ c.in-Some.is) in
    subst (λ (r : ReadyNet). sink.node < length r.pinned.net.par.nodes) (sym c.ready.view_is)
    (found_within c.args.ready.now.pinned.net.par (is_unconstrained rows c.args.ready.now.pinned.net.par) sink found)
