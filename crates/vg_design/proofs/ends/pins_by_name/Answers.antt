use Rattle.std.proofs.Common.{ap, arith}
use Rattle.vg_design.specs.Designs.{Joined}
use Rattle.vg_design.specs.Steps.{Seen}
use Rattle.vg_design.proofs.SeenLemmas.{all_found, more_seen, none_found, pin_here}
use Rattle.vg_design.proofs.ends.pins_by_name.Goals as goal

pub see_pin-requires : goal.see_pin-requires
see_pin-requires c =
    pin_here c.args.design.now c.args.net.now c.net.inside.id c.pins_on-at-items.result.now (ap (λ (n : Joined). n.id) c.net.view_is) c.pins_on-at-items.ensures c.pin.at-index _ (omega (arith, c.pin-test.true))

pub returns-then-not-branch : goal.returns-then-not-branch
returns-then-not-branch c =
    none_found c.args.design.now c.args.net.now c.net.inside.id c.pins_on-at-items.result.now (ap (λ (n : Joined). n.id) c.net.view_is) c.pins_on-at-items.ensures c.pin.at-index _ (omega (arith, c.pin-test.true)) c.pin.ends
    c.pin.invariant (c.in_ok-see_pin.ensures.none c.if-not-branch.true)

pub pin-preserved : goal.pin-preserved
pin-preserved c =
    more_seen c.args.design.now c.args.net.now c.net.inside.id c.pins_on-at-items.result.now (ap (λ (n : Joined). n.id) c.net.view_is) c.pins_on-at-items.ensures c.pin.at-index _ (omega (arith, c.pin-test.true)) c.pin.ends
    c.see_pin.new.ends c.pin.invariant (c.in_ok-see_pin.ensures.seen c.if-not-branch.false)

pub returns : goal.returns
returns c =
    all_found c.args.design.now c.args.net.now c.net.inside.id c.pins_on-at-items.result.now (ap (λ (n : Joined). n.id) c.net.view_is) c.pins_on-at-items.ensures c.pin.at-index (omega (arith, c.pin-test.false)) c.ends-2.inside.pins.items
    c.pin.ends (ap (λ (s : Seen). s.pins) c.ends-2.view_is) c.pin.invariant
