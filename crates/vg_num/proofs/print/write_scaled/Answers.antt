use Rattle.std.proofs.Common.{ℕ, ◌∙◌, arith, sym}
use Rattle.std.proofs.Math.ListN.{length-set}
use Rattle.vg_num.proofs.PrintingLemmas.{nothing_behind}
use Rattle.std.specs.Fmt.{decimal}
use Rattle.std.proofs.lemmas.Fmt.{length-decimal-le}
use Rattle.vg_num.proofs.print.write_scaled.Goals as goal

pub write_digits-requires : goal.write_digits-requires
write_digits-requires c = (omega (arith, length-decimal-le 20 c.without_zeros-digits.result.0), omega arith)

pub returns-then-kept-eq0-clause-written : goal.returns-then-kept-eq0-clause-written
returns-then-kept-eq0-clause-written c =
    c.write_digits.ensures.written
    ∙ nothing_behind (decimal c.without_zeros-digits.result.0) c.args.buffer.now c.told-buffer
    ∙ sym (rw c.if-kept-eq0.true at c.without_zeros-digits.ensures.text)

pub write_digits-requires-2 : goal.write_digits-requires-2
write_digits-requires-2 c = (omega (arith, length-decimal-le 20 c.write_fraction-whole.result), omega (arith, length-set {A = ℕ}))
