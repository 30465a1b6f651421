-- In a request no two options name one file.
use Rattle.std.proofs.Common.{◌≡◌, ◌≢◌, ℕ, Bool, true, false, List, [], ◌∷◌, refl, sym, ap, ◌∙◌, Option, Some, None}
use Rattle.std.proofs.lemmas.Bool.{false≢true, true≢false}
use Rattle.std.proofs.lemmas.Slice.Eq.{bytes_eq-Decides}
use Rattle.std.specs.List.{find, list_any}
use Rattle.vg_words.specs.Options.{file_options, is_same, names_file}
use Rattle.vg_words.specs.Request.{Values, IsRequest, are_equal, first_equal, value, with_one}
use Rattle.vg_words.specs.declared.ask.Ask.{Ask}
use Rattle.vg_words.specs.declared.option.Opt.{Opt}
use Rattle.vg_words.proofs.JudgeLemmas.{none_found, whole_request}
use Rattle.vg_words.proofs.OptionLemmas.{same_option}

-- options with one value have equal values
equal_values : (values : Values) (one other : Opt) (file : List ℕ) → values one ≡ Some file → values other ≡ Some file
    → are_equal (values one) (values other) ≡ true
equal_values values one other file x y = (λ i. are_equal (x i) (y i)) ∙ (bytes_eq-Decides file file).1 refl

no_pair : (one : Opt) (found : Option Opt) (later : Option (Opt × Opt)) → with_one one found later ≡ None → (found ≡ None) × (later ≡ None)
no_pair one None later e = (refl, e)
no_pair one (Some other) later e = absurd (cc)

-- where no two of a list are equal, the first equals none of the others, and no two of these are
first_apart : (values : Values) (one : Opt) (others : List Opt) → first_equal values (one ∷ others) ≡ None
    → (find (λ other. are_equal (values one) (values other)) others ≡ None) × (first_equal values others ≡ None)
unfolding first_equal
first_apart values one others e = no_pair one (find (λ other. are_equal (values one) (values other)) others) (first_equal values others) e

-- no option of a list has the value of one that equals none of them
none_of_value : (values : Values) (one : Opt) (others : List Opt) (other : Opt) (file : List ℕ)
    → find (λ other. are_equal (values one) (values other)) others ≡ None → list_any (is_same other) others ≡ true
    → values one ≡ Some file → values other ≡ Some file → ⊥
none_of_value values one others other file none among x y =
    true≢false (sym (equal_values values one other file x y) ∙ none_found (λ other. are_equal (values one) (values other)) others other none among)

-- two options of a list of which no two are equal do not have one value
values_apart : (values : Values) (os : List Opt) (file : List ℕ) → first_equal values os ≡ None → (one other : Opt) → list_any (is_same one) os ≡ true
    → list_any (is_same other) os ≡ true → one ≢ other → values one ≡ Some file → values other ≡ Some file → ⊥
values_apart values [] file e one other in_one in_other apart x y = false≢true in_one
values_apart values (o ∷ os) file e one other in_one in_other apart x y =
    let (none, later) = first_apart values o os e in
    go none (is_same one o) refl (is_same other o) refl (values_apart values os file later one other)
  where
    go : find (λ other. are_equal (values o) (values other)) os ≡ None → (a : Bool) → is_same one o ≡ a → (b : Bool) → is_same other o ≡ b
        → (list_any (is_same one) os ≡ true → list_any (is_same other) os ≡ true → one ≢ other → values one ≡ Some file → values other ≡ Some file → ⊥)
        → ⊥
    go none true p true q later = apart (same_option one o p ∙ sym (same_option other o q))
    go none true p false q later =
        none_of_value values o os other file none (sym (rw q refl) ∙ in_other) (ap values (sym (same_option one o p)) ∙ x) y
    go none false p true q later =
        none_of_value values o os one file none (sym (rw p refl) ∙ in_one) (ap values (sym (same_option other o q)) ∙ y) x
    go none false p false q later = later (sym (rw p refl) ∙ in_one) (sym (rw q refl) ∙ in_other) apart x y

pub files_differ : (words : List (List ℕ)) (ask : Ask) → IsRequest words ask → (one other : Opt) → names_file one ≡ true → names_file other ≡ true
    → one ≢ other → (a b : List ℕ) → value ask one ≡ Some a → value ask other ≡ Some b → a ≢ b
files_differ words ask is one other in_one in_other apart a b x y same =
    let first : value ask one ≡ Some b = x ∙ ap (λ (file : List ℕ). Some file) same in
    values_apart (value ask) file_options b (whole_request words ask is).apart one other in_one in_other apart first y
