use Rattle.std.proofs.Common.{◌≡◌, ◌^◌, false, true, Ok, pos, sym, ap, ◌∙◌, arith}
use Rattle.std.specs.Fmt.{decimal}
use Rattle.std.specs.Str.{bytes_eq}
use Rattle.std.proofs.lemmas.Slice.Eq.{bytes_eq-Decides}
use Rattle.vg_num.specs.Number.{scaled}
use Rattle.ver_module.proofs.BitNameLemmas.{read_again}
use Rattle.ver_module.proofs.net.number_written.Goals as goal

pub returns-in_default : goal.returns-in_default
returns-in_default c bit l e =
    c.in_default.not-Ok bit (c.read_scaled.ensures.exact ∙ ap (scaled (pos 0) (10 ^ 15)) e ∙ read_again c.reads_scaled_again.ensures bit l)

pub returns-in_default-try_from : goal.returns-in_default-try_from
returns-in_default-try_from c bit l e =
    let oks : Ok c.in-Ok.number ≡ Ok bit = sym c.in-Ok.is ∙ c.read_scaled.ensures.exact ∙ ap (scaled (pos 0) (10 ^ 15)) e ∙ read_again c.reads_scaled_again.ensures bit l in
    let same : c.in-Ok.number ≡ bit = cc in
    c.in_default-try_from.ensures (omega (arith, same, l))

pub returns-else-eq : goal.returns-else-eq
returns-else-eq c bit l e =
    let oks : Ok c.in-Ok.number ≡ Ok bit = sym c.in-Ok.is ∙ c.read_scaled.ensures.exact ∙ ap (scaled (pos 0) (10 ^ 15)) e ∙ read_again c.reads_scaled_again.ensures bit l in
    let same : c.in-Ok.number ≡ bit = cc in
    let read : c.in-Ok-try_from.bit ≡ bit = omega (arith, c.in-Ok-try_from.ensures.1, same) in
    let text : c.as_bytes.result.now ≡ c.args.digits.now = c.as_bytes.ensures.value ∙ c.format.ensures.text ∙ ap decimal read ∙ sym e in
    let true_is : bytes_eq c.as_bytes.result.now c.args.digits.now ≡ true = (bytes_eq-Decides c.as_bytes.result.now c.args.digits.now).1 text in
    let false_is : false ≡ bytes_eq c.as_bytes.result.now c.args.digits.now = sym c.if-eq.false ∙ c.eq.ensures in
    absurd (cc)
