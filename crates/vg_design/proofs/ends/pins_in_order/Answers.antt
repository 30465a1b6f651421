use Rattle.std.proofs.Common.{◌≡◌, ◌∙◌, List, get_or, length, ap, arith}
use Rattle.ver_net.specs.Connections.{pins_on}
use Rattle.ver_net.specs.declared.pin_ref.PinRef.{PinRef}
use Rattle.vg_scan.specs.Nodes.{same_node}
use Rattle.vg_design.specs.Designs.{Joined, name_of, pin_name}
use Rattle.vg_design.proofs.OrderedLemmas.{NO_PIN, first_more, found_first}
use Rattle.vg_design.proofs.SeenLemmas.{pin_here}
use Rattle.vg_design.proofs.ends.pins_in_order.Goals as goal

pub is_named-requires-clause-pin : goal.is_named-requires-clause-pin
is_named-requires-clause-pin c =
    pin_here c.args.design.now c.args.net.now c.net.inside.id c.pins_on-on_net.result.now (ap (λ (n : Joined). n.id) c.net.view_is) c.pins_on-on_net.ensures c.pin.at NO_PIN
    (omega (arith, c.pin-test.true, c.if-on_net-count.false))

pub pin-init : goal.pin-init
pin-init c = (c.in_ok-pins.ensures.items, λ i low. absurd (omega (arith, low)))

pub pin-preserved : goal.pin-preserved
pin-preserved c =
    let d = c.args.design.now in
    let at = c.pin.at in
    let refs : c.pins_on-on_net.result.now ≡ pins_on d.netlist c.args.net.now.id
    = c.pins_on-on_net.ensures ∙ ap (λ (n : Joined). pins_on d.netlist n.id) c.net.view_is in
    let pin = get_or c.pins_on-on_net.result.now at NO_PIN in
    first_more d c.args.net.now at pin NO_PIN c.pin.pins.items c.push.new.self.items
    (omega (arith, c.pin-test.true, c.if-on_net-count.false, ap length refs))
    (ap (λ (xs : List PinRef). get_or xs at NO_PIN) refs) c.pin.invariant
    (c.if-not-is_named.ensures ∙ ap (λ (n : Joined). same_node (pin_name d.netlist pin) (name_of n.par at)) c.net.view_is)
    c.in_ok-push.ensures.items

pub returns : goal.returns
returns c =
    let d = c.args.design.now in
    let refs : c.pins_on-on_net.result.now ≡ pins_on d.netlist c.args.net.now.id
    = c.pins_on-on_net.ensures ∙ ap (λ (n : Joined). pins_on d.netlist n.id) c.net.view_is in
    let conns = ap (λ (n : Joined). length n.par.conns) c.net.view_is in
    found_first d c.args.net.now c.pin.pins.items c.pin.at
    (omega (arith, ap length refs, c.if-on_net-count.false, c.len-count.ensures, conns))
    (omega (arith, ap length refs, c.if-on_net-count.false, c.pin-test.false)) c.pin.invariant
