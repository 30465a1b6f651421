use Rattle.std.proofs.Common.{◌∙◌, List, Some, length, sym, ap, subst}
use Rattle.std.proofs.lemmas.Result.{err_from_is_err_and}
use Rattle.spef_wire.specs.declared.refusal.Refusal.TheVariants.{Unconstrained}
use Rattle.vg_scan.specs.declared.name.NodeName.{NodeName}
use Rattle.vg_design.specs.Designs.{NO_NODE}
use Rattle.vg_design.proofs.ReadyLemmas.{none_there}
use Rattle.vg_sta.proofs.AddLemmas.{fault_is, first_refused, is_refused, net_more, pins_within}
use Rattle.vg_sta.specs.Outputs.{Onward}
use Rattle.vg_sta.specs.Steps.{AreAdded, FindsFree, IsFirstFree}
use Rattle.vg_sta.specs.Timings.{IsFault, IsRefused}
use Rattle.vg_sta.proofs.build.add_net.Goals as goal

pub returns-in-Err-clause-fault : goal.returns-in-Err-clause-fault
returns-in-Err-clause-fault c =
    subst (IsFault c.args.design.now) (sym c.fault_of.ensures)
    (fault_is c.args.design.now c.args.section c.in_ok-name.name c.in-Err.refused c.args.lists.now
    (c.net_name.ensures ∙ ap Some (sym c.in_ok-name.ensures)) c.requires.lists c.in-Err.ensures.refused)

pub add_sinks-requires-clause-within : goal.add_sinks-requires-clause-within
add_sinks-requires-clause-within c = pins_within c.args.design.now c.in_ok-name.name c.in-Ok.net c.in-Ok.ensures.net c.args.outputs.now c.requires.outputs

pub returns-in_err-sink-clause-fault : goal.returns-in_err-sink-clause-fault
returns-in_err-sink-clause-fault c =
    let p = err_from_is_err_and c.from_residual-in_err-sink.result c.from_residual-in_err-sink.ensures.1 in rw (p.1, p.2) tt

pub returns-in-Some-clause-fault : goal.returns-in-Some-clause-fault
returns-in-Some-clause-fault c =
    let found = rw c.in-Some.is at c.in_ok-node.ensures in
    let free = subst (λ (os : List (List Onward)). IsFirstFree os c.in-Ok.net c.in-Some.node) c.requires.outputs found in
    let refused = is_refused c.args.design.now c.in_ok-name.name c.in-Ok.net c.in-Ok.ensures.net c.in-Some.node free in
    first_refused c.args.design.now c.args.section c.in_ok-name.name (Unconstrained c.in_ok-sink.sink) c.args.lists.now
    (c.net_name.ensures ∙ ap Some (sym c.in_ok-name.ensures)) c.requires.lists
    (subst (λ (at : NodeName). IsRefused c.args.design.now c.in_ok-name.name (Unconstrained at)) (sym (c.in_ok-sink.ensures NO_NODE.name)) refused)

pub returns-in_err-add_arrival-clause-fault : goal.returns-in_err-add_arrival-clause-fault
returns-in_err-add_arrival-clause-fault c =
    let p = err_from_is_err_and c.from_residual-in_err-add_arrival.result c.from_residual-in_err-add_arrival.ensures.1 in rw (p.1, p.2) tt

pub returns-clause-lists : goal.returns-clause-lists
returns-clause-lists c =
    let found = none_there (FindsFree c.args.outputs.now c.args.section c.in-Ok.net c.args.lists.now c.add_sinks.new.lists) c.in_ok-node.field-0 c.in_default.not-Some c.in_ok-node.ensures in
    let added = subst (λ (os : List (List Onward)). AreAdded os c.args.section c.in-Ok.net (length c.in-Ok.net.sinks) c.args.lists.now c.add_sinks.new.lists) c.requires.outputs found in
    net_more c.args.design.now c.args.section c.in_ok-name.name c.in-Ok.net c.args.lists.now c.add_sinks.new.lists c.add_arrival.new.lists
    (c.net_name.ensures ∙ ap Some (sym c.in_ok-name.ensures)) c.in-Ok.ensures.net c.requires.lists added
    c.in_ok-add_arrival.ensures.arrivals c.in_ok-add_arrival.ensures.sinks c.in_ok-add_arrival.ensures.nodes c.in_ok-add_arrival.ensures.leads
