use Rattle.std.proofs.Common.{sym, ◌∙◌, subst, ◌<◌, length}
use Rattle.vg_design.specs.Refusals.{is_unloaded}
use Rattle.vg_design.specs.declared.pins.PinnedNet.{PinnedNet}
use Rattle.vg_design.proofs.ReadyLemmas.{found_within}
use Rattle.vg_design.proofs.ready.check_pins.Goals as goal

pub name_of-requires : goal.name_of-requires
name_of-requires c =
    subst (λ (p : PinnedNet). c.in-Some.sink.node < length p.net.par.nodes) (sym c.pinned.view_is)
    (found_within c.args.pinned.now.net.par (is_unloaded c.args.design.now c.args.pinned.now.net) c.in-Some.sink (sym c.first_unloaded.ensures ∙ c.in-Some.is))
