use Rattle.std.proofs.Common.{sym, ◌∙◌, arith}
use Rattle.std.specs.Prelude.{nat_eq}
use Rattle.std.proofs.lemmas.Bool.Decides.{nat_tests}
use Rattle.std.proofs.lemmas.Slice.Eq.{bytes_eq-Decides}
use Rattle.ver_module.proofs.BitNameLemmas.{bits_named}
use Rattle.ver_module.proofs.net.is_bit_of.Goals as goal

pub returns-then-number-bit : goal.returns-then-number-bit
returns-then-number-bit c =
    let own = c.in-Some.own.now in
    bits_named own c.args.base.now c.in-Some.number c.args.bit c.in-Some.ensures.few c.ranges.bit.fits c.args.name.now c.in-Some.ensures.is c.eq.result
    (λ t. (c.if-number-bit.true, (bytes_eq-Decides own c.args.base.now).0 (sym c.eq.ensures ∙ t)))
    (λ _ e. c.eq.ensures ∙ (bytes_eq-Decides own c.args.base.now).1 e)

pub returns-else-number-bit : goal.returns-else-number-bit
returns-else-number-bit c =
    bits_named c.in-Some.own.now c.args.base.now c.in-Some.number c.args.bit c.in-Some.ensures.few c.ranges.bit.fits c.args.name.now c.in-Some.ensures.is
    (nat_eq c.in-Some.number c.args.bit)
    (λ t. absurd (c.if-number-bit.false (grind (arith, nat_tests, t))))
    (λ e _. absurd (c.if-number-bit.false e))
