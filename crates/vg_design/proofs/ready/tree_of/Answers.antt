use Rattle.std.proofs.Common.{subst, ◌≡◌, true}
use Rattle.std.specs.List.{list_any}
use Rattle.spef_wire.specs.Refusals.{is_sink}
use Rattle.vg_design.specs.declared.pins.PinnedNet.{PinnedNet}
use Rattle.vg_design.proofs.ReadyLemmas.{sink_there}
use Rattle.vg_design.proofs.ready.tree_of.Goals as goal

pub returns-clause-sink : goal.returns-clause-sink
returns-clause-sink c = subst (λ (p : PinnedNet). list_any is_sink p.net.par.conns ≡ true) c.pinned.view_is (sink_there c.pinned.inside.0.0.par c.in_ok-built.ensures.accepted)
