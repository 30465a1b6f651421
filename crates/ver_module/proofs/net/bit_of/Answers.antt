use Rattle.std.proofs.Common.{◌≡◌, ◌+◌, ◌∷◌, ◌++◌, length, get_or, ap, ◌∙◌, arith, length-append}
use Rattle.std.specs.Fmt.{decimal}
use Rattle.std.proofs.Math.Seq.{get_or-append_seam}
use Rattle.memchr.specs.Find.{is_byte}
use Rattle.ver_module.proofs.BitNameLemmas.{front_of, is_open, not_open, number_of_front, rest_of}
use Rattle.ver_module.proofs.net.bit_of.Goals as goal

pub returns-in_err-open-clause-is : goal.returns-in_err-open-clause-is
returns-in_err-open-clause-is c = rw c.from_residual.ensures (λ base bit l e.
    let front = c.in-Some-eq93-default.front.now in
    let is : front ≡ base ++ 91 ∷ decimal bit = front_of front c.args.name.now base _ bit c.in-Some-eq93-default.ensures.cases.0 e in
    c.in_err-open.ensures (length base) (omega arith) (omega (arith, ap length is, length-append base (91 ∷ decimal bit)))
    (ap (λ f. is_byte 91 (get_or f (length base) 0)) is ∙ ap (is_byte 91) (get_or-append_seam base 91 (decimal bit) 0)))

pub returns-in_err-bit-clause-is : goal.returns-in_err-bit-clause-is
returns-in_err-bit-clause-is c = rw c.from_residual-in_err-bit.ensures (λ base bit l e.
    let front = c.in-Some-eq93-default.front.now in
    let is : front ≡ base ++ 91 ∷ decimal bit = front_of front c.args.name.now base _ bit c.in-Some-eq93-default.ensures.cases.0 e in
    let last = c.in_ok-open.ensures in
    c.in_err-bit.ensures bit l
    (rest_of front (c.in_ok-open.open + 1)
    ∙ number_of_front front base bit c.in_ok-open.open l is last.0.high (is_open _ last.1) (λ j low high. not_open _ (last.0.after j low high))))
