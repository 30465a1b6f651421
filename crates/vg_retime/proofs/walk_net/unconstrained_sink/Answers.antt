use Rattle.std.proofs.Common.{◌<◌, length, subst, sym, ◌∙◌}
use Rattle.vg_design.specs.declared.pins.PinnedNet.{PinnedNet}
use Rattle.vg_design.proofs.ReadyLemmas.{found_within}
use Rattle.vg_retime.specs.Refusals.{is_unconstrained_here}
use Rattle.vg_retime.proofs.walk_net.unconstrained_sink.Goals as goal

pub name-requires : goal.name-requires
name-requires c =
    subst (λ (p : PinnedNet). c.in-Some.sink.node < length p.net.par.nodes) (sym c.net.view_is)
    (found_within c.args.net.now.net.par (is_unconstrained_here c.args.design.now c.args.prefix.now c.args.net.now.net) c.in-Some.sink
    (sym c.first_unconstrained.ensures ∙ c.in-Some.is))
