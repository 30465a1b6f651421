use Rattle.std.proofs.Common.{◌≡◌, ◌∙◌, min, arith, rules, ap, Ok}
use Rattle.std.proofs.lemmas.Int.{to_z-of_z}
use mir.Syntax.{w128}
use mir.Val.{SFits}
use Rattle.vg_num.specs.Number.{with_sign, without_minus, value_of}
use Rattle.vg_num.proofs.NearestLemmas.{whole_form, whole_large, whole_ok}
use Rattle.vg_num.proofs.whole.read_whole.Goals as goal

pub returns-then-not-is_numeral : goal.returns-then-not-is_numeral
returns-then-not-is_numeral c = whole_form c.args.text.now (search rules)

pub returns-then-size-gt100000000000000000000000000 : goal.returns-then-size-gt100000000000000000000000000
returns-then-size-gt100000000000000000000000000 c =
    let v : c.capped_value-size.result ≡ min (value_of (without_minus c.args.text.now)) 1000000000000000000000000000000 = search rules in
    whole_large c.args.text.now (search rules) (omega arith)

pub returns : goal.returns
returns c =
    let v : c.capped_value-size.result ≡ min (value_of (without_minus c.args.text.now)) 1000000000000000000000000000000 = search rules in
    let fit : SFits w128 c.with_sign.result = search rules in
    let z = c.with_sign.ensures.value ∙ ap (λ b. with_sign b c.capped_value-size.result) c.begins_with_minus.ensures in
    rw (to_z-of_z w128 c.with_sign.result fit)
    (ap Ok z ∙ whole_ok c.args.text.now c.capped_value-size.result (search rules) (omega arith) (omega arith))
