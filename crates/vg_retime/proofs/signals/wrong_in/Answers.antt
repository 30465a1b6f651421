use Rattle.std.proofs.Common.{◌<◌, Some, length, get_or, sym, ap, ◌∙◌, arith, option_map, below_more}
use Rattle.elmore.specs.Delay.{is_odd}
use Rattle.vg_scan.specs.declared.name.NodeName.{NodeName}
use Rattle.vg_design.specs.Designs.{NO_NODE}
use Rattle.vg_design.specs.Nets.{name_at}
use Rattle.vg_retime.specs.Steps.{signal_of}
use Rattle.vg_retime.specs.WalkNets.{WalkNet}
use Rattle.vg_retime.specs.Ways.{is_wrong}
use Rattle.vg_retime.proofs.SignalLemmas.{end_here, ends_size, none_wrong, wrong_at}
use Rattle.vg_retime.proofs.signals.wrong_in.Goals as goal

pub returns-then-is_wrong : goal.returns-then-is_wrong
returns-then-is_wrong c =
    let size = ends_size c.args.net.now c.net.inside.ends.items (sym (ap (λ (n : WalkNet). n.ends) c.net.view_is)) in
    let test = c.node-test.true in
    let low : c.node.i < length c.net.inside.ends.items = omega (arith, size, test) in
    let low_net : c.node.i < length c.args.net.now.ends = omega (arith, size, low) in
    ap (λ (x : NodeName). Some x) (c.in_ok-name.ensures NO_NODE.name ∙ ap (λ (n : WalkNet). get_or n.names c.node.i NO_NODE.name) c.net.view_is)
    ∙ sym (ap (option_map (name_at c.args.net.now.names)) (wrong_at c.args.net.now (signal_of c.args.signal.now) c.node.i low_net c.node.invariant
    (ap (is_wrong (is_odd c.args.signal.now.inverters)) (end_here c.args.net.now c.net.inside.ends.items c.node.i c.index.result.now (sym (ap (λ (n : WalkNet). n.ends) c.net.view_is)) low c.index.ensures) ∙ sym c.is_wrong.ensures ∙ c.if-is_wrong.true)))

pub node-preserved : goal.node-preserved
node-preserved c =
    let size = ends_size c.args.net.now c.net.inside.ends.items (sym (ap (λ (n : WalkNet). n.ends) c.net.view_is)) in
    let test = c.node-test.true in
    let low : c.node.i < length c.net.inside.ends.items = omega (arith, size, test) in
    below_more _ _ c.node.invariant
    (ap (is_wrong (is_odd c.args.signal.now.inverters)) (end_here c.args.net.now c.net.inside.ends.items c.node.i c.index.result.now (sym (ap (λ (n : WalkNet). n.ends) c.net.view_is)) low c.index.ensures) ∙ sym c.is_wrong.ensures ∙ c.if-is_wrong.false)

pub returns : goal.returns
returns c =
    let size = ends_size c.args.net.now c.net.inside.ends.items (sym (ap (λ (n : WalkNet). n.ends) c.net.view_is)) in
    let high = c.node-test.false in
    sym (ap (option_map (name_at c.args.net.now.names)) (none_wrong c.args.net.now (signal_of c.args.signal.now) (λ k low. c.node.invariant k (omega (arith, size, low, high)))))
