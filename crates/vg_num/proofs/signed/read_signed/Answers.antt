use Rattle.std.proofs.Common.{◌≡◌, arith, ◌∙◌, rules, ap, Ok}
use Rattle.std.specs.Str.Parse.{starts_with_minus}
use Rattle.std.proofs.lemmas.Int.{to_z-of_z}
use mir.Syntax.{w32, w128}
use mir.Val.{SFits}
use Rattle.vg_num.specs.Number.{with_sign}
use Rattle.vg_num.proofs.NearestLemmas.{signed_form, signed_large, signed_ok}
use Rattle.vg_num.proofs.signed.read_signed.Goals as goal

pub returns-then-not-is_number-clause-exact : goal.returns-then-not-is_number-clause-exact
returns-then-not-is_number-clause-exact c = signed_form c.args.places 100000000000000000000000 c.args.text.now (search rules)

pub returns-then-size-gt100000000000000000000000-clause-exact : goal.returns-then-size-gt100000000000000000000000-clause-exact
returns-then-size-gt100000000000000000000000-clause-exact c =
    let (n, near, e) = rw (to_z-of_z w32 c.args.places c.ranges.places) at c.size_of-size.ensures in
    signed_large c.args.places 100000000000000000000000 c.args.text.now n (search rules) near (omega (arith, e))

pub returns-clause-exact : goal.returns-clause-exact
returns-clause-exact c =
    let (n, near, e) = rw (to_z-of_z w32 c.args.places c.ranges.places) at c.size_of-size.ensures in
    let same : c.size_of-size.result ≡ n = omega (arith, e) in
    let fit : SFits w128 c.with_sign.result = search rules in
    let z = c.with_sign.ensures.value ∙ ap (λ b. with_sign b c.size_of-size.result) c.begins_with_minus.ensures ∙ ap (with_sign (starts_with_minus c.args.text.now)) same in
    rw (to_z-of_z w128 c.with_sign.result fit)
    (ap Ok z ∙ signed_ok c.args.places 100000000000000000000000 c.args.text.now n (search rules) near (omega (arith, e)))
