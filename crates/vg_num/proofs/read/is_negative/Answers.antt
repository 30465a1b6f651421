use Rattle.std.proofs.Common.{◌≡◌, ℕ, ◌<◌, ◌++◌, true, ◌&&◌, nat_lt, List, min, arith, sym, ◌∙◌, ap}
use Rattle.std.specs.List.{before_first, after_first}
use Rattle.std.specs.Str.Parse.{starts_with_minus}
use Rattle.std.proofs.lemmas.Bool.Decides.{nat_tests}
use Rattle.vg_num.specs.Number.{is_negative, is_point, coefficient, whole, fraction, value_of, value_after}
use Rattle.vg_num.proofs.CapLemmas.{capped_on, value_after-append}
use Rattle.vg_num.proofs.read.is_negative.Goals as goal

capped_test : (n v cap : ℕ) → 0 < cap → n ≡ min v cap → nat_lt 0 n ≡ nat_lt 0 v
capped_test n v cap k e = grind (arith, nat_tests)

capped_whole : (xs ys : List ℕ) (m n : ℕ) → m ≡ min (value_after 0 xs) 1000000000000000000000000000000 → n ≡ min (value_after m ys) 1000000000000000000000000000000 → n ≡ min (value_of (xs ++ ys)) 1000000000000000000000000000000
capped_whole xs ys m n e f =
    f ∙ capped_on 1000000000000000000000000000000 ys m (value_of xs) (omega arith) ∙ ap (λ v. min v 1000000000000000000000000000000) (sym (value_after-append xs ys 0))

pub returns-then-begins_with_minus : goal.returns-then-begins_with_minus
unfolding is_negative coefficient whole fraction
returns-then-begins_with_minus c =
    let text = c.args.text.now in
    let w : c.before_point-whole.result.now ≡ whole text = c.before_point-whole.ensures ∙ ap (before_first is_point) c.mantissa_of-mantissa.ensures in
    let f : c.after_point-fraction.result.now ≡ fraction text = c.after_point-fraction.ensures ∙ ap (after_first is_point) c.mantissa_of-mantissa.ensures in
    let m : c.capped_value.result ≡ min (value_after 0 (whole text)) 1000000000000000000000000000000 = c.capped_value.ensures ∙ ap (λ x. min (value_after 0 x) 1000000000000000000000000000000) w in
    let n : c.capped_value-then-begins_with_minus.result ≡ min (value_after c.capped_value.result (fraction text)) 1000000000000000000000000000000 = c.capped_value-then-begins_with_minus.ensures ∙ ap (λ x. min (value_after c.capped_value.result x) 1000000000000000000000000000000) f in
    let b : starts_with_minus text ≡ true = sym c.begins_with_minus.ensures ∙ c.if-begins_with_minus.true in
    capped_test c.capped_value-then-begins_with_minus.result (coefficient text) 1000000000000000000000000000000 (omega arith) (capped_whole (whole text) (fraction text) c.capped_value.result c.capped_value-then-begins_with_minus.result m n)
    ∙ ap (λ t. t && nat_lt 0 (coefficient text)) (sym b)
