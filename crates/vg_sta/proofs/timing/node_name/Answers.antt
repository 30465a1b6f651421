use Rattle.std.proofs.Common.{◌∙◌, List, length, Some, sym, ap, arith}
use Rattle.vg_scan.specs.declared.name.NodeName.{NodeName}
use Rattle.vg_design.specs.Designs.{NO_NODE}
use Rattle.vg_design.specs.Nets.{name_at}
use Rattle.vg_sta.proofs.EndLemmas.{one_net}
use Rattle.vg_sta.proofs.timing.node_name.Goals as goal

pub name-requires : goal.name-requires
name-requires c =
    let named = c.net_name.ensures ∙ ap Some (sym c.in_ok-name.ensures) in
    let same = ap length (one_net c.args.design.now c.args.section c.in_ok-name.name c.requires.net.name c.in-Ok.net c.requires.net.net named c.requires.net.named c.in-Ok.ensures.net c.requires.net.net_of) in
    let low = c.requires.net.low in
    omega (arith, same, low)

pub returns-in-Ok : goal.returns-in-Ok
returns-in-Ok c = λ name net at is.
    let named = c.net_name.ensures ∙ ap Some (sym c.in_ok-name.ensures) in
    c.in_ok-name-in-Ok.ensures NO_NODE.name
    ∙ ap (λ (names : List NodeName). name_at names c.args.node) (one_net c.args.design.now c.args.section c.in_ok-name.name name c.in-Ok.net net named at c.in-Ok.ensures.net is)
