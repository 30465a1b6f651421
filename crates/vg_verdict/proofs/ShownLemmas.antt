-- What is called a valid certificate is one, and shows that its placement is best, or that none is good.
use Rattle.std.proofs.Common.{◌≡◌, ℕ, Bool, true, false, List, ◌++◌, get_or, refl, sym, ap, ◌∙◌, arith, inl, inr, ℤ, Option, Some, None, codes}
use Rattle.std.proofs.lemmas.Bool.{false≢true}
use Rattle.std.proofs.lemmas.List.{append_cancel_left, append_cancel_right}
use Rattle.vg_scan.specs.declared.fault.LineFault.{LineFault}
use Rattle.vg_scan.specs.declared.name.NetNames.{NetNames}
use Rattle.vg_cert.specs.declared.fault.CertKind.{CertKind}
use Rattle.vg_check.specs.declared.verdict.Verdict.{Verdict}
use Rattle.vg_check.specs.declared.verdict.Verdict.TheVariants.{Yes, Illegal, WrongPolarity, WrongSlack, Uncovered, NotBest}
use Rattle.vg_verdict.specs.Judged.{is_yes}
use Rattle.vg_verdict.specs.Judged.IsJudged.{told_fault, told_verdict}
use Rattle.vg_verdict.specs.Laws.{IsCalledValid, ValidAreBest}
use Rattle.vg_verdict.specs.Lines.{certificate_line, fault_line, fault_text, valid_text, verdict_line, verdict_text}

-- ---- which lines say that a certificate is valid

-- the lines of a net tell apart what they say
same_rest : (names : NetNames) (a b : List ℕ) → certificate_line names a ≡ certificate_line names b → a ≡ b
same_rest names a b same =
    let past_net = append_cancel_left (codes "net ") (names.net ++ (codes " certificate " ++ (a ++ codes "\n"))) (names.net ++ (codes " certificate " ++ (b ++ codes "\n"))) same in
    let past_name = append_cancel_left names.net (codes " certificate " ++ (a ++ codes "\n")) (codes " certificate " ++ (b ++ codes "\n")) past_net in
    append_cancel_right a b (codes "\n") (append_cancel_left (codes " certificate ") (a ++ codes "\n") (b ++ codes "\n") past_name)

-- the first letter
abbrev begins : List ℕ → ℕ
begins text = get_or text 0 0

valid_begins : (slack : Option ℤ) → begins (valid_text slack) ≡ 118
valid_begins None = refl
valid_begins (Some x) = refl

begins_other : (text : List ℕ) (slack : Option ℤ) (n : ℕ) → begins text ≡ n → (n ≡ 118 → ⊥) → text ≡ valid_text slack → ⊥
begins_other text slack n is other same = other (sym is ∙ ap begins same ∙ valid_begins slack)

only_yes : (names : NetNames) (written slack : Option ℤ) (verdict : Verdict) → verdict_text names written verdict ≡ valid_text slack → verdict ≡ Yes
only_yes names written slack Yes same = refl
only_yes names written slack (Illegal v) same = absurd (begins_other (verdict_text names written (Illegal v)) slack 105 refl (λ e. omega (arith, e)) same)
only_yes names written slack (WrongPolarity w) same =
    absurd (begins_other (verdict_text names written (WrongPolarity w)) slack 112 refl (λ e. omega (arith, e)) same)
only_yes names written slack (WrongSlack a b) same =
    absurd (begins_other (verdict_text names written (WrongSlack a b)) slack 115 refl (λ e. omega (arith, e)) same)
only_yes names written slack (Uncovered v) same = absurd (begins_other (verdict_text names written (Uncovered v)) slack 117 refl (λ e. omega (arith, e)) same)
only_yes names written slack (NotBest a b) same = absurd (begins_other (verdict_text names written (NotBest a b)) slack 98 refl (λ e. omega (arith, e)) same)

no_fault : (fault : LineFault CertKind) (slack : Option ℤ) → fault_text fault ≡ valid_text slack → ⊥
no_fault fault slack same = begins_other (fault_text fault) slack 102 refl (λ e. omega (arith, e)) same

-- ---- what is called valid is so

yes_is : (verdict : Verdict) → true ≡ is_yes verdict → verdict ≡ Yes
yes_is Yes e = refl
yes_is (Illegal v) e = absurd (false≢true (sym e))
yes_is (WrongPolarity w) e = absurd (false≢true (sym e))
yes_is (WrongSlack a b) e = absurd (false≢true (sym e))
yes_is (Uncovered v) e = absurd (false≢true (sym e))
yes_is (NotBest a b) e = absurd (false≢true (sym e))

called_yes : (names : NetNames) (valid : Bool) (line : List ℕ) (written : Option ℤ) (verdict : Verdict) → valid ≡ is_yes verdict
    → line ≡ verdict_line names written verdict → IsCalledValid names valid line → verdict ≡ Yes
called_yes names valid line written verdict v l (inl holds) = yes_is verdict (sym holds ∙ v)
called_yes names valid line written verdict v l (inr (slack, same)) =
    only_yes names written slack verdict (same_rest names (verdict_text names written verdict) (valid_text slack) (sym l ∙ same))

called_fault : (names : NetNames) (valid : Bool) (line : List ℕ) (fault : LineFault CertKind) → valid ≡ false → line ≡ fault_line names fault
    → IsCalledValid names valid line → ⊥
called_fault names valid line fault v l (inl holds) = false≢true (sym v ∙ holds)
called_fault names valid line fault v l (inr (slack, same)) =
    no_fault fault slack (same_rest names (fault_text fault) (valid_text slack) (sym l ∙ same))

pub valid_best : ValidAreBest
valid_best p names text valid line (told_fault fault first v l) called = absurd (called_fault names valid line fault v l called)
valid_best p names text valid line (told_verdict cert writes verdict is shown v l) called =
    let is_valid : verdict ≡ Yes = called_yes names valid line cert.slack verdict v l called in
    record { cert = cert; writes = writes; line_is = l ∙ ap (verdict_line names cert.slack) is_valid; shown = shown is_valid }
