use Rattle.std.proofs.Common.{◌≡◌, inl, inr, length, arith}
use Rattle.lib_linear.proofs.RepeaterLemmas.{are_two}
use Rattle.lib_linear.proofs.repeater.two_pins.Goals as goal

pub returns-then-are_two : goal.returns-then-are_two
returns-then-are_two c =
    let size : length c.args.pins.now ≡ 2 = omega (arith, c.len.ensures, c.if-len-ne2.false) in
    record { two = inl (are_two c.args.pins.now c.get-a.result c.get-b.result size c.get-a.ensures c.get-b.ensures); ways = c.if-are_two.ensures }

pub returns-then-are_two-2 : goal.returns-then-are_two-2
returns-then-are_two-2 c =
    let size : length c.args.pins.now ≡ 2 = omega (arith, c.len.ensures, c.if-len-ne2.false) in
    record { two = inr (are_two c.args.pins.now c.get-a.result c.get-b.result size c.get-a.ensures c.get-b.ensures); ways = c.if-are_two-2.ensures }
