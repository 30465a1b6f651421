use Rattle.std.proofs.Common.{ℕ, ℤ, List, ◌++◌, ap, ◌∙◌, arith, append_assoc, take, take_all, rules}
use Rattle.std.proofs.lemmas.Int.{to_z-of_z}
use Rattle.std.specs.List.{flat_map}
use mir.Syntax.{w128}
use mir.Val.{SFits}
use Rattle.vg_scan.specs.declared.name.NodeName.{NodeName}
use Rattle.vg_report.specs.Reports.{sink_line}
use Rattle.vg_report.proofs.ReportLemmas.{sinks_more}
use Rattle.vg_report.proofs.wire.print_sinks.Goals as goal

pub sink-preserved : goal.sink-preserved
sink-preserved c =
    let sinks = c.args.sinks.now in
    let at = c.sink.at in
    let line : List ℕ = sink_line (record { owner = c.owner.result.now; leaf = c.leaf.result.now }, c.delay.result) in
    let name : NodeName = record { owner = c.owner.result.now; leaf = c.leaf.result.now } in
    let fits : SFits w128 c.delay.result = search rules in
    c.in_ok-print_sink.ensures
    ∙ ap (λ (delay : ℤ). c.sink.to.items ++ sink_line (name, delay)) (to_z-of_z w128 c.delay.result fits)
    ∙ ap (λ (text : List ℕ). text ++ line) c.sink.invariant
    ∙ append_assoc c.args.to.now.items (flat_map sink_line (take at sinks)) line
    ∙ ap (λ (text : List ℕ). c.args.to.now.items ++ text)
    (sinks_more sinks at c.owner.result.now c.leaf.result.now c.delay.result (omega (arith, c.sink-test.true, c.len-at-end.ensures)) c.owner.ensures c.leaf.ensures c.delay.ensures)

pub returns : goal.returns
returns c =
    c.sink.invariant
    ∙ ap (λ (sinks : List (NodeName × ℤ)). c.args.to.now.items ++ flat_map sink_line sinks) (take_all c.sink.at c.args.sinks.now (omega (arith, c.sink-test.false, c.len-at-end.ensures)))
