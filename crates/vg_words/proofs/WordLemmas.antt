-- Words with a `-` in front, as `clap` reads them.
use Rattle.std.proofs.Common.{◌≡◌, ℕ, suc, ◌+◌, ◌==◌, Bool, true, false, not, ◌||◌, List, [], ◌∷◌, ◌++◌, take, drop, refl, sym, ap, ◌∙◌, arith, Option, Some, None, is_some, codes, inl, inr, ◌⊎◌, append-nil}
use Rattle.std.proofs.Math.Bool.{or-true}
use Rattle.std.proofs.lemmas.Bool.{eqb-true, false≢true}
use Rattle.std.proofs.lemmas.Slice.Eq.{bytes_eq-Decides}
use Rattle.std.specs.List.{position_or_len}
use Rattle.std.specs.Prelude.{option_and_then, if◌then◌else◌}
use Rattle.std.specs.Str.{bytes_eq}
use Rattle.std.specs.Str.Parse.{starts_with_minus}
use Rattle.clap.specs.Lexer.{has_byte, long_of, long_of_rest, name_and_value, short_of, strip_byte}
use Rattle.vg_words.specs.Command.{is_value_or_long, long_name}
use Rattle.vg_words.specs.Options.{name_of}
use Rattle.vg_words.specs.declared.option.Opt.{Opt}
use Rattle.vg_words.proofs.OptionLemmas.{name-long}

-- the name in a long word, and its value, if it has one
abbrev pub Long : Type 0
Long = List ℕ × Option (List ℕ)

no_long : (p : Long) → None ≡ Some p → ⊥
no_long p e = cc

-- a long word is not `--`
pub ends_none : (word : List ℕ) (p : Long) → long_of word ≡ Some p → bytes_eq word (codes "--") ≡ false
ends_none word p e = go (bytes_eq word (codes "--")) refl
  where
    go : (b : Bool) → bytes_eq word (codes "--") ≡ b → b ≡ false
    go false is = refl
    go true is = absurd (no_long p (ap long_of (sym ((bytes_eq-Decides word (codes "--")).0 is)) ∙ e))

-- nor is a word that begins with no `-`, which is no option either
pub record IsPlain (word : List ℕ) : Type 0 where
  pub ends_none : bytes_eq word (codes "--") ≡ false
  pub no_long : long_of word ≡ None
  pub no_short : short_of word ≡ None

pub plain : (word : List ℕ) → starts_with_minus word ≡ false → IsPlain word
plain [] e = record { ends_none = refl; no_long = refl; no_short = refl }
plain (x ∷ xs) e = record { ends_none = rw e refl; no_long = rw e refl; no_short = rw e refl }

-- a value, or a long word
some_long : (o : Option Long) → is_some o ≡ true → (p : Long) × (o ≡ Some p)
some_long None e = absurd (false≢true e)
some_long (Some p) e = (p, refl)

pub value_or_long : (word : List ℕ) → is_value_or_long word ≡ true → (starts_with_minus word ≡ false) ⊎ ((p : Long) × (long_of word ≡ Some p))
value_or_long word e = go (starts_with_minus word) refl
  where
    go : (b : Bool) → starts_with_minus word ≡ b → (starts_with_minus word ≡ false) ⊎ ((p : Long) × (long_of word ≡ Some p))
    go false is = inl is
    go true is = inr (some_long (long_of word) (sym (ap (λ b. not b || is_some (long_of word)) is) ∙ e))

pub value_form : (word : List ℕ) → starts_with_minus word ≡ false → is_value_or_long word ≡ true
value_form word e = ap (λ b. not b || is_some (long_of word)) e

pub long_form : (word : List ℕ) (p : Long) → long_of word ≡ Some p → is_value_or_long word ≡ true
long_form word p e = ap (λ o. not (starts_with_minus word) || is_some o) e ∙ or-true (not (starts_with_minus word))

-- ---- the parts of a long word

abbrev tail : Option (List ℕ) → List ℕ
tail None = []
tail (Some v) = 61 ∷ v

abbrev joined_parts : Long → List ℕ
joined_parts p = p.0 ++ tail p.1

abbrev is_equals : ℕ → Bool
is_equals x = x == 61

parts_more : (x : ℕ) (xs : List ℕ) (b : Bool) → is_equals x ≡ b → xs ≡ joined_parts (name_and_value xs) → x ∷ xs ≡ joined_parts (name_and_value (x ∷ xs))
parts_more x xs true is more = rw (is, eqb-true x 61 is) refl
parts_more x xs false is more =
    let n : ℕ = position_or_len is_equals xs in
    let next : position_or_len is_equals (x ∷ xs) ≡ suc n = rw is (omega arith) in
    let past : suc n + 1 ≡ suc (n + 1) = omega arith in
    let any : has_byte 61 (x ∷ xs) ≡ has_byte 61 xs = rw is refl in
    ap (λ (ys : List ℕ). x ∷ ys) more
    ∙ ap (λ k. x ∷ (take n xs ++ tail (if has_byte 61 xs then Some (drop k (x ∷ xs)) else None))) (sym past)
    ∙ ap (λ b. x ∷ (take n xs ++ tail (if b then Some (drop (suc n + 1) (x ∷ xs)) else None))) (sym any)
    ∙ ap (λ k. take k (x ∷ xs) ++ tail (if has_byte 61 (x ∷ xs) then Some (drop (k + 1) (x ∷ xs)) else None)) (sym next)

parts : (xs : List ℕ) → xs ≡ joined_parts (name_and_value xs)
parts [] = refl
parts (x ∷ xs) = parts_more x xs (is_equals x) refl (parts xs)

some_parts : (p q : Long) → Some p ≡ Some q → p ≡ q
some_parts p q e = cc

rest_parts : (rest : List ℕ) (p : Long) → long_of_rest rest ≡ Some p → rest ≡ joined_parts p
rest_parts [] p e = absurd (no_long p e)
rest_parts (x ∷ xs) p e = parts (x ∷ xs) ∙ ap joined_parts (some_parts (name_and_value (x ∷ xs)) p e)

-- what is read after a first hyphen
after_hyphen : (word : List ℕ) (read : List ℕ → Option Long) (p : Long) → option_and_then read (strip_byte 45 word) ≡ Some p
    → (rest : List ℕ) × (word ≡ 45 ∷ rest) × (read rest ≡ Some p)
after_hyphen [] read p e = absurd (no_long p e)
after_hyphen (x ∷ xs) read p e = go (x == 45) refl
  where
    go : (b : Bool) → (x == 45) ≡ b → (rest : List ℕ) × (x ∷ xs ≡ 45 ∷ rest) × (read rest ≡ Some p)
    go true is = (xs, ap (λ n. n ∷ xs) (eqb-true x 45 is), sym (rw is refl) ∙ e)
    go false is = absurd (no_long p (sym (rw is refl) ∙ e))

abbrev after_one : List ℕ → Option Long
after_one rest = option_and_then long_of_rest (strip_byte 45 rest)

long_of-after : (o : Option (List ℕ)) → option_and_then long_of_rest (option_and_then (strip_byte 45) o) ≡ option_and_then after_one o
long_of-after None = refl
long_of-after (Some rest) = refl

long_parts : (word : List ℕ) (p : Long) → long_of word ≡ Some p → word ≡ codes "--" ++ joined_parts p
long_parts word p e =
    let (one, first, e_one) = after_hyphen word after_one p (sym (long_of-after (strip_byte 45 word)) ∙ e) in
    let (two, second, e_two) = after_hyphen one long_of_rest p e_one in
    first ∙ ap (λ (xs : List ℕ). 45 ∷ xs) second ∙ ap (λ (xs : List ℕ). 45 ∷ 45 ∷ xs) (rest_parts two p e_two)

-- the word of an option, without a value and with one
pub named_word : (word : List ℕ) (o : Opt) → long_of word ≡ Some (long_name o, None) → word ≡ name_of o
named_word word o e = long_parts word (long_name o, None) e ∙ ap (λ (xs : List ℕ). 45 ∷ 45 ∷ xs) (append-nil (long_name o)) ∙ sym (name-long o)

pub joined_word : (word : List ℕ) (o : Opt) (v : List ℕ) → long_of word ≡ Some (long_name o, Some v) → word ≡ name_of o ++ (codes "=" ++ v)
joined_word word o v e = long_parts word (long_name o, Some v) e ∙ ap (λ (xs : List ℕ). xs ++ (codes "=" ++ v)) (sym (name-long o))
