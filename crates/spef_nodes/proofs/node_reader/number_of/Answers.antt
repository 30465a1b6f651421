use Rattle.std.proofs.Common.{arith, sym, ◌<◌, ◌^◌}
use Rattle.spef_nodes.proofs.NodeReaderLemmas.{few_digits, digit_is, value_more, digits_more, all_written}
use Rattle.spef_nodes.proofs.node_reader.number_of.Goals as goal

pub overflow_mul-number : goal.overflow_mul-number
overflow_mul-number c =
    let small : c.digit.number < 10 ^ 9 = few_digits c.args.text.now c.digit.byte-index c.digit.number (omega (arith, c.digit-test.true, c.if-text-gt9.false)) c.digit.invariant.value c.digit.invariant.digits in
    omega (arith, small)

pub overflow_add-number : goal.overflow_add-number
overflow_add-number c =
    let small : c.digit.number < 10 ^ 9 = few_digits c.args.text.now c.digit.byte-index c.digit.number (omega (arith, c.digit-test.true, c.if-text-gt9.false)) c.digit.invariant.value c.digit.invariant.digits in
    omega (arith, small, c.from.ensures, c.if-byte-gt57.false)

pub digit-preserved : goal.digit-preserved
digit-preserved c = record {
  value = value_more c.args.text.now c.digit.byte-index c.digit.number c.from.result c.digit-test.true c.digit.invariant.value c.from.ensures;
  digits = digits_more c.args.text.now c.digit.byte-index c.digit-test.true c.digit.invariant.digits (digit_is _ c.if-byte-lt48.false c.if-byte-gt57.false);
}

pub returns : goal.returns
returns c = all_written c.args.text.now c.digit.byte-index c.digit.number (sym c.if-is_empty.ensures) c.if-text-eq48.false (omega (arith, c.digit-test.false)) c.digit.invariant.value c.digit.invariant.digits
