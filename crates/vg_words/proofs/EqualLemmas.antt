-- The first two options that have equal values.
use Rattle.std.proofs.Common.{◌≡◌, ℕ, ◌+◌, ◌-◌, ◌<◌, ◌≤◌, List, ◌∷◌, length, take, drop, get_or, sym, ap, ◌∙◌, subst, arith, Option, None, drop-cons, add-one}
use Rattle.std.specs.List.{find}
use Rattle.std.proofs.lemmas.Grind.{common_steps}
use Rattle.std.proofs.lemmas.List.{drop_all}
use Rattle.vg_words.specs.Request.{Values, are_equal, with_one, first_equal}
use Rattle.vg_words.specs.declared.option.Opt.{Opt}

rest_is : (files : List Opt) (n : ℕ) → take (length files - n) (drop n files) ≡ drop n files
rest_is files n = grind (arith, common_steps)

equal_first : (values : Values) (files : List Opt) (at : ℕ) (d : Opt) → at < length files
    → first_equal values (drop at files) ≡ with_one (get_or files at d) (find (λ o. are_equal (values (get_or files at d)) (values o)) (drop (at + 1) files)) (first_equal values (drop (at + 1) files))
unfolding first_equal
equal_first values files at d low = ap (first_equal values) (drop-cons files at d low ∙ ap (λ n. get_or files at d ∷ drop n files) (sym (add-one at)))

-- the option at a place, and those after it
pub equal_at : (values : Values) (files all : List Opt) (at : ℕ) (d : Opt) (found : Option Opt) → files ≡ all → at < length files
    → found ≡ find (λ o. are_equal (values (get_or files at d)) (values o)) (take (length files - (at + 1)) (drop (at + 1) files))
    → first_equal values (drop at all) ≡ with_one (get_or files at d) found (first_equal values (drop (at + 1) all))
equal_at values files all at d found e low is =
    subst (λ (fs : List Opt). first_equal values (drop at fs) ≡ with_one (get_or files at d) found (first_equal values (drop (at + 1) fs))) e
    (equal_first values files at d low
    ∙ ap (λ (o : Option Opt). with_one (get_or files at d) o (first_equal values (drop (at + 1) files)))
    (ap (find (λ o. are_equal (values (get_or files at d)) (values o))) (sym (rest_is files (at + 1))) ∙ sym is))

pub equal_end : (values : Values) (files : List Opt) (at : ℕ) → length files ≤ at → first_equal values (drop at files) ≡ None
unfolding first_equal
equal_end values files at past = ap (first_equal values) (drop_all at files past)
