use Rattle.std.proofs.Common.{◌≡◌, ◌+◌, ◌-◌, take, drop, length, arith, ℤ, pos, subst, refl, ◌∙◌}
use Rattle.std.specs.Prelude.{IfSome}
use Rattle.std.proofs.lemmas.Int.{to_z-of_z}
use mir.Syntax.{w32}
use mir.Val.{to_z, of_z}
use lib.IntN.{nat_abs}
use Rattle.vg_num.specs.Number.{IsScaled}
use Rattle.vg_num.proofs.PlainLemmas.{not_below, whole_scaled, point_scaled}
use Rattle.vg_num.proofs.plain.plain_value.Goals as goal

pub returns-then-front-text : goal.returns-then-front-text
returns-then-front-text c =
    let z = to_z w32 (of_z w32 c.args.places) in
    let same : pos (nat_abs z) ≡ c.args.places = not_below z c.if-places-lt0.false ∙ to_z-of_z w32 c.args.places c.ranges.places in
    let w = c.leading_digits-whole.ensures in
    subst (λ (p : ℤ). IfSome c.small_product.result (IsScaled p 1000000000000000 c.args.text.now)) same
    (whole_scaled c.args.text.now c.leading_digits-whole.result.1 c.leading_digits-whole.result.0 (nat_abs z) 1000000000000000 c.small_product.result (omega arith) c.if-front-text.true w.value w.digits c.small_product.ensures)

pub returns : goal.returns
returns c =
    let z = to_z w32 (of_z w32 c.args.places) in
    let same : pos (nat_abs z) ≡ c.args.places = not_below z c.if-places-lt0.false ∙ to_z-of_z w32 c.args.places c.ranges.places in
    let w = c.leading_digits-whole.ensures in
    let v = c.leading_digits-value.ensures in
    subst (λ (p : ℤ). IfSome c.small_product-2.result (IsScaled p 1000000000000000 c.args.text.now)) same
    (point_scaled c.args.text.now (take (length c.args.text.now - (c.leading_digits-whole.result.1 + 1)) (drop (c.leading_digits-whole.result.1 + 1) c.args.text.now)) c.leading_digits-whole.result.1 c.leading_digits-value.result.1 c.leading_digits-whole.result.0 c.leading_digits-value.result.0 (nat_abs z) 1000000000000000 c.small_product-2.result
    (omega arith) (omega (arith, w.within)) c.if-text-front-ne46.false refl w.value w.digits v.value v.digits c.if-back-rest.false v.within c.if-back-places.false c.small_product-2.ensures)
