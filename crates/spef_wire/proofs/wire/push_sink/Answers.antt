use Rattle.std.proofs.Common.{rules}
use Rattle.std.proofs.lemmas.Int.{to_z-of_z}
use mir.Syntax.{w128}
use mir.Val.{SFits}
use Rattle.vg_scan.specs.declared.name.NodeName.{NodeName}
use Rattle.spef_wire.proofs.WireLemmas.{is_pushed}
use Rattle.spef_wire.proofs.wire.push_sink.Goals as goal

pub returns-in_ok-push : goal.returns-in_ok-push
returns-in_ok-push c =
    let fits : SFits w128 c.args.delay = search rules in
    let name : NodeName = record { owner = c.owner.result.now; leaf = c.leaf.result.now } in
    is_pushed c.args.net.now c.args.node c.args.delay c.args.is_sink name c.args.rows.now c.push.new.self
    c.if-is_sink.true c.requires (λ other. λ i. record { owner = c.owner.ensures other i; leaf = c.leaf.ensures other i }) (rw (to_z-of_z w128 c.args.delay fits) at c.in_ok-push.ensures.last)
