-- Words spell one list of settings at most.
use Rattle.std.proofs.Common.{◌≡◌, ℕ, Bool, true, false, List, [], ◌∷◌, ◌++◌, length, drop, get_or, refl, sym, ap, ap₂, ◌∙◌, subst, arith, Option, Some, None, codes, inl, inr}
use Rattle.std.proofs.lemmas.Bool.{true≢false}
use Rattle.std.specs.List.{list_any}
use Rattle.clap.specs.Lexer.{long_of}
use Rattle.vg_words.specs.Options.{name_of, is_flag, is_same}
use Rattle.vg_words.specs.Request.{Setting, Spells, AreSpelled, Sets, flag_value, is_of, value_of}
use Rattle.vg_words.specs.declared.option.Opt.{Opt}
use Rattle.vg_words.proofs.OptionLemmas.{named, joined, one_option, same_option}

-- the name and the value in the first word
abbrev front : List (List ℕ) → Option (List ℕ × Option (List ℕ))
front words = long_of (get_or words 0 [])

abbrev name_in : Option (List ℕ × Option (List ℕ)) → List ℕ
name_in None = []
name_in (Some p) = p.0

abbrev value_in : Option (List ℕ × Option (List ℕ)) → Option (List ℕ)
value_in None = None
value_in (Some p) = p.1

some_text : (a b : List ℕ) → Some a ≡ Some b → a ≡ b
some_text a b e = cc

no_value : (v : List ℕ) → Some v ≡ None → ⊥
no_value v e = cc

abbrev AreOne : Setting → List (List ℕ) → Setting → List (List ℕ) → Type 0
AreOne (o, v) rest (p, u) others = (o ≡ p) × (v ≡ u) × (rest ≡ others)

-- a flag is no option with a value
no_flag : (o p : Opt) → o ≡ p → is_flag o ≡ true → is_flag p ≡ false → ⊥
no_flag o p e flag valued = true≢false (sym flag ∙ ap is_flag e ∙ valued)

one_front : (words : List (List ℕ)) (o : Opt) (v : List ℕ) (rest : List (List ℕ)) (p : Opt) (u : List ℕ) (others : List (List ℕ))
    → Spells words (o, v) rest → Spells words (p, u) others → AreOne (o, v) rest (p, u) others
one_front words o v rest p u others (inl (_, (e, v_none))) (inl (_, (f, u_none))) =
    let same : name_of o ∷ rest ≡ name_of p ∷ others = sym e ∙ f in
    (one_option o p (ap name_in (sym (named o) ∙ ap front same ∙ named p)), v_none ∙ sym u_none, ap (drop 1) same)
one_front words o v rest p u others (inl (flag, (e, _))) (inr (valued, inl (f, _))) =
    absurd (no_flag o p (one_option o p (ap name_in (sym (named o) ∙ ap front (sym e ∙ f) ∙ named p))) flag valued)
one_front words o v rest p u others (inl (flag, (e, _))) (inr (valued, inr f)) =
    absurd (no_value u (ap value_in (sym (joined u p) ∙ ap front (sym f ∙ e) ∙ named o)))
one_front words o v rest p u others (inr (valued, inl (e, _))) (inl (flag, (f, _))) =
    absurd (no_flag p o (one_option p o (ap name_in (sym (named p) ∙ ap front (sym f ∙ e) ∙ named o))) flag valued)
one_front words o v rest p u others (inr (_, inl (e, _))) (inr (_, inl (f, _))) =
    let same : name_of o ∷ v ∷ rest ≡ name_of p ∷ u ∷ others = sym e ∙ f in
    (one_option o p (ap name_in (sym (named o) ∙ ap front same ∙ named p)), ap (λ ws. get_or ws 1 []) same, ap (drop 2) same)
one_front words o v rest p u others (inr (_, inl (e, _))) (inr (_, inr f)) =
    absurd (no_value u (ap value_in (sym (joined u p) ∙ ap front (sym f ∙ e) ∙ named o)))
one_front words o v rest p u others (inr (valued, inr e)) (inl (flag, (f, _))) =
    absurd (no_value v (ap value_in (sym (joined v o) ∙ ap front (sym e ∙ f) ∙ named p)))
one_front words o v rest p u others (inr (_, inr e)) (inr (_, inl (f, _))) =
    absurd (no_value v (ap value_in (sym (joined v o) ∙ ap front (sym e ∙ f) ∙ named p)))
one_front words o v rest p u others (inr (_, inr e)) (inr (_, inr f)) =
    let same = sym (joined v o) ∙ ap front (sym e ∙ f) ∙ joined u p in
    (one_option o p (ap name_in same), some_text v u (ap value_in same), ap (drop 1) (sym e ∙ f))

-- there is a first word
some_front : (words : List (List ℕ)) (setting : Setting) (rest : List (List ℕ)) → Spells words setting rest → words ≡ [] → ⊥
some_front words (o, v) rest (inl (_, (e, _))) none =
    let n : length (name_of o ∷ rest) ≡ 0 = ap length (sym e ∙ none) in absurd (omega arith)
some_front words (o, v) rest (inr (_, inl (e, _))) none =
    let n : length (name_of o ∷ v ∷ rest) ≡ 0 = ap length (sym e ∙ none) in absurd (omega arith)
some_front words (o, v) rest (inr (_, inr e)) none =
    let n : length ((name_of o ++ (codes "=" ++ v)) ∷ rest) ≡ 0 = ap length (sym e ∙ none) in absurd (omega arith)

one_spelling : (ss ts : List Setting) (words : List (List ℕ)) → AreSpelled words ss → AreSpelled words ts → ss ≡ ts
one_spelling [] [] words e f = refl
one_spelling [] (t ∷ ts) words e (rest, spells, more) = absurd (some_front words t rest spells e)
one_spelling (s ∷ ss) [] words (rest, spells, more) f = absurd (some_front words s rest spells f)
one_spelling ((o, v) ∷ ss) ((p, u) ∷ ts) words (rest, spells, more) (others, spells_too, more_too) =
    let (option, value, left) = one_front words o v rest p u others spells spells_too in
    let setting : ◌≡◌ {A = Setting} (o, v) (p, u) = λ i. (option i, value i) in
    ap₂ (λ (s : Setting) (all : List Setting). s ∷ all) setting (one_spelling ss ts others (subst (λ ws. AreSpelled ws ss) left more) more_too)

pub one_setting : (words : List (List ℕ)) (ss ts : List Setting) → Sets words ss → Sets words ts → ss ≡ ts
one_setting words ss ts a b = one_spelling ss ts words a.spelled b.spelled

-- the value of a flag is empty
empty_value : (words rest : List (List ℕ)) (o : Opt) (v : List ℕ) → is_flag o ≡ true → Spells words (o, v) rest → v ≡ []
empty_value words rest o v flag (inl (_, (_, e))) = e
empty_value words rest o v flag (inr (valued, _)) = absurd (no_flag o o refl flag valued)

pub flag_set : (words : List (List ℕ)) (ss : List Setting) (o : Opt) → is_flag o ≡ true → AreSpelled words ss
    → value_of o ss ≡ flag_value (list_any (is_of o) ss)
flag_set words [] o flag e = refl
flag_set words ((p, v) ∷ ss) o flag (rest, spells, more) = go (is_same p o) refl (flag_set rest ss o flag more)
  where
    go : (b : Bool) → is_same p o ≡ b → value_of o ss ≡ flag_value (list_any (is_of o) ss)
        → value_of o ((p, v) ∷ ss) ≡ flag_value (list_any (is_of o) ((p, v) ∷ ss))
    go true is later =
        let own : is_flag p ≡ true = ap is_flag (same_option p o is) ∙ flag in
        rw is (ap (λ (x : List ℕ). Some x) (empty_value words rest p v own spells))
    go false is later = rw is later
