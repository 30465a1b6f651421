use Rattle.std.proofs.Common.{◌≡◌, ℕ, suc, ◌+◌, ◌-◌, ◌*◌, ◌≤◌, ◌++◌, ◌∷◌, [], true, take, get_or, refl, sym, ap, ◌∙◌, arith}
use Rattle.std.specs.List.{list_all}
use Rattle.std.proofs.Math.Seq.{take-suc}
use Rattle.std.proofs.lemmas.Bool.Decides.{nat_tests}
use Rattle.std.proofs.lemmas.List.Folds.{list_all-append}
use Rattle.vg_num.specs.Number.{is_digit, value_after}
use Rattle.vg_num.proofs.CapLemmas.{value_after-append}
use Rattle.vg_num.proofs.plain.leading_digits.Goals as goal

digit_is : (b : ℕ) → 48 ≤ b → b ≤ 57 → is_digit b ≡ true
digit_is b low high = grind (arith, nat_tests)

pub digit-preserved : goal.digit-preserved
digit-preserved c =
    let text = c.args.text.now in
    let i = c.digit.count in
    let b = get_or text i 0 in
    let more : take (i + 1) text ≡ take i text ++ b ∷ [] = ap (λ n. take n text) (let e : i + 1 ≡ suc i = omega arith in e) ∙ take-suc text i 0 c.digit-test.true in
    let is : is_digit b ≡ true = digit_is b (omega arith) (omega arith) in
    let byte : c.from.result ≡ b - 48 = c.from.ensures in
    record {
      value = ap (λ v. v * 10 + c.from.result) c.digit.invariant.value ∙ ap (λ d. value_after c.args.front (take i text) * 10 + d) byte ∙ sym (ap (value_after c.args.front) more ∙ value_after-append (take i text) (b ∷ []) c.args.front);
      digits = ap (list_all is_digit) more ∙ list_all-append is_digit (take i text) (b ∷ []) ∙ (rw c.digit.invariant.digits (rw is refl));
      within = omega arith;
      small = omega (arith, byte);
    }
