-- Settings of which no option is set twice, and the rows that `clap` keeps of them.
use Rattle.std.proofs.Common.{◌≡◌, ℕ, ◌+◌, ◌<◌, ◌||◌, Bool, true, false, nat_lt, List, [], ◌∷◌, ◌++◌, map, refl, sym, ap, ap₂, ◌∙◌, subst, arith, cond, lt-ltb, ltb-true, Some, None, codes}
use Rattle.std.proofs.lemmas.Bool.{false≢true, true≢false}
use Rattle.std.proofs.lemmas.List.Sums.{sum_by-append, sum_by-cons}
use Rattle.std.specs.List.{count_by, list_any}
use Rattle.std.specs.Str.{bytes_eq}
use Rattle.clap.specs.Values.{bool_text}
use Rattle.clap.specs.Walk.{has_row, more_values}
use Rattle.clap.specs.Words.{Row, first_of, one_of}
use Rattle.clap.specs.declared.builder.value_parser.Reading.TheVariants.{AsWritten}
use Rattle.clap.specs.declared.parser.matches.ValueSource.TheVariants.{DefaultValue}
use Rattle.vg_words.specs.Command.{long_name}
use Rattle.vg_words.specs.Options.{is_flag, is_same, options}
use Rattle.vg_words.specs.Request.{Setting, is_of, are_once, value_of}
use Rattle.vg_words.specs.declared.option.Opt.{Opt}
use Rattle.vg_words.specs.declared.option.Opt.TheVariants.{All}
use Rattle.vg_words.proofs.OptionLemmas.{all-each, each-all, other_name, same-long, same_option, same_self}
use Rattle.vg_words.proofs.CommandLemmas.{with_flag}
use Rattle.vg_words.proofs.WalkLemmas.{at_row-missing, none_or, row, shown, shown_flag, shown_value}

abbrev pub AreOnce : List Setting → Type 0
AreOnce ss = (o : Opt) → count_by (is_of o) ss < 2

pub from_once : (ss : List Setting) → are_once ss ≡ true → AreOnce ss
from_once ss e o = ltb-true _ _ (all-each (λ o. nat_lt (count_by (is_of o) ss) 2) e o)

pub to_once : (ss : List Setting) → AreOnce ss → are_once ss ≡ true
to_once ss once = each-all (λ o. nat_lt (count_by (is_of o) ss) 2) (λ o. lt-ltb _ _ (once o)) options

-- how often an option is set, and whether it is
abbrev one : Opt → Setting → ℕ
one o s = cond (is_of o s) 1 0

count-cons : (o : Opt) (s : Setting) (ss : List Setting) → count_by (is_of o) (s ∷ ss) ≡ one o s + count_by (is_of o) ss
count-cons o s ss = sum_by-cons (one o) s ss

count-append : (o : Opt) (before : List Setting) (s : Setting) (ss : List Setting)
    → count_by (is_of o) (before ++ s ∷ ss) ≡ count_by (is_of o) before + (one o s + count_by (is_of o) ss)
count-append o before s ss = sum_by-append (one o) before (s ∷ ss) ∙ ap (λ n. count_by (is_of o) before + n) (count-cons o s ss)

none_more : (b : Bool) (n : ℕ) (later : Bool) → cond b 1 0 + n ≡ 0 → (n ≡ 0 → later ≡ false) → (b || later) ≡ false
none_more true n later e more = absurd (omega arith)
none_more false n later e more = more (omega arith)

count-none : (o : Opt) (ss : List Setting) → count_by (is_of o) ss ≡ 0 → list_any (is_of o) ss ≡ false
count-none o [] e = refl
count-none o (s ∷ ss) e = none_more (is_of o s) (count_by (is_of o) ss) (list_any (is_of o) ss) (sym (count-cons o s ss) ∙ e) (count-none o ss)

zero_more : (b : Bool) (n : ℕ) (later : Bool) → (b || later) ≡ false → (later ≡ false → n ≡ 0) → cond b 1 0 + n ≡ 0
zero_more true n later e more = absurd (true≢false e)
zero_more false n later e more = omega (arith, more e)

none-count : (o : Opt) (ss : List Setting) → list_any (is_of o) ss ≡ false → count_by (is_of o) ss ≡ 0
none-count o [] e = refl
none-count o (s ∷ ss) e = count-cons o s ss ∙ zero_more (is_of o s) (count_by (is_of o) ss) (list_any (is_of o) ss) e (none-count o ss)

-- an option that is set once more was not set before
pub fresh_before : (before : List Setting) (o : Opt) (v : List ℕ) (ss : List Setting) → AreOnce (before ++ (o, v) ∷ ss) → list_any (is_of o) before ≡ false
fresh_before before o v ss once =
    let own : one o (o, v) ≡ 1 = ap (λ b. cond b 1 0) (same_self o) in
    count-none o before (omega (arith, own, count-append o before (o, v) ss, once o))

pub once_more : (before : List Setting) (o : Opt) (v : List ℕ) → AreOnce before → list_any (is_of o) before ≡ false → AreOnce (before ++ (o, v) ∷ [])
once_more before o v once fresh p = subst (λ n. n < 2) (sym (count-append p before (o, v) [])) (go (is_same o p) refl)
  where
    go : (b : Bool) → is_same o p ≡ b → count_by (is_of p) before + (cond b 1 0 + 0) < 2
    go true is =
        let none : count_by (is_of p) before ≡ 0 = none-count p before (subst (λ q. list_any (is_of q) before ≡ false) (same_option o p is) fresh) in
        omega (arith, none)
    go false is = omega (arith, once p)

-- the rows of settings
pub has_row-row : (o : Opt) (ss : List Setting) → has_row (long_name o) (map row ss) ≡ list_any (is_of o) ss
has_row-row o [] = refl
has_row-row o ((p, v) ∷ ss) = ap₂ (λ a b. a || b) (same-long p o) (has_row-row o ss)

pub first_of-row : (o : Opt) (ss : List Setting) → is_flag o ≡ false → first_of (long_name o) (map row ss) ≡ value_of o ss
first_of-row o [] valued = refl
first_of-row o ((p, v) ∷ ss) valued = go (is_same p o) refl (first_of-row o ss valued)
  where
    go : (b : Bool) → is_same p o ≡ b → first_of (long_name o) (map row ss) ≡ value_of o ss
        → first_of (long_name o) (map row ((p, v) ∷ ss)) ≡ value_of o ((p, v) ∷ ss)
    go true is more =
        let own : shown p v ≡ v = shown_value p v (ap is_flag (same_option p o is) ∙ valued) in
        rw (same-long p o, is) (ap (λ (text : List ℕ). Some text) own)
    go false is more = rw (same-long p o, is) more

-- a flag that is set has the text `true`
set_text : (o : Opt) (ss : List Setting) → is_flag o ≡ true → list_any (is_of o) ss ≡ true → one_of (long_name o) (map row ss) ≡ Some (codes "true")
set_text o [] flag e = absurd (false≢true e)
set_text o ((p, v) ∷ ss) flag e = go (is_same p o) refl (set_text o ss flag)
  where
    go : (b : Bool) → is_same p o ≡ b → (list_any (is_of o) ss ≡ true → one_of (long_name o) (map row ss) ≡ Some (codes "true"))
        → one_of (long_name o) (map row ((p, v) ∷ ss)) ≡ Some (codes "true")
    go true is more =
        let own : shown p v ≡ codes "true" = shown_flag p v (ap is_flag (same_option p o is) ∙ flag) in
        rw (same-long p o, is) (ap (λ (text : List ℕ). Some text) own)
    go false is more = rw (same-long p o, is) (more (sym (rw is refl) ∙ e))

-- the row that the flag has by default
abbrev default_row : Row
default_row = record { id = long_name All; values = codes "false" ∷ []; count = None; source = Some DefaultValue; reading = AsWritten }

with_flag-set : (rows : List Row) → has_row (long_name All) rows ≡ true → with_flag rows ≡ rows
with_flag-set rows e = rw e refl

with_flag-unset : (rows : List Row) → has_row (long_name All) rows ≡ false → with_flag rows ≡ rows ++ default_row ∷ []
with_flag-unset rows e = rw e (at_row-missing (long_name All) (more_values DefaultValue (codes "false" ∷ [])) (default_row ∷ []) rows e)

-- it is read where there is no other row of the flag
default_text : (rows : List Row) → has_row (long_name All) rows ≡ false → one_of (long_name All) (rows ++ default_row ∷ []) ≡ Some (codes "false")
default_text [] e = refl
default_text (r ∷ rs) e = let (first, later) = none_or (bytes_eq r.id (long_name All)) (has_row (long_name All) rs) e in rw first (default_text rs later)

-- and leaves the other options as they were
other_first : (o : Opt) (rows : List Row) → is_flag o ≡ false → first_of (long_name o) (rows ++ default_row ∷ []) ≡ first_of (long_name o) rows
other_first o [] valued = rw (other_name o valued) refl
other_first o (r ∷ rs) valued = go (bytes_eq r.id (long_name o)) refl (other_first o rs valued)
  where
    go : (b : Bool) → bytes_eq r.id (long_name o) ≡ b → first_of (long_name o) (rs ++ default_row ∷ []) ≡ first_of (long_name o) rs
        → first_of (long_name o) (r ∷ rs ++ default_row ∷ []) ≡ first_of (long_name o) (r ∷ rs)
    go true is more = rw is refl
    go false is more = rw is more

-- what is found of an option with a value is the value that is set
pub value_found : (o : Opt) (ss : List Setting) → is_flag o ≡ false → first_of (long_name o) (with_flag (map row ss)) ≡ value_of o ss
value_found o ss valued = go (has_row (long_name All) (map row ss)) refl ∙ first_of-row o ss valued
  where
    go : (b : Bool) → has_row (long_name All) (map row ss) ≡ b → first_of (long_name o) (with_flag (map row ss)) ≡ first_of (long_name o) (map row ss)
    go true is = ap (first_of (long_name o)) (with_flag-set (map row ss) is)
    go false is = ap (first_of (long_name o)) (with_flag-unset (map row ss) is) ∙ other_first o (map row ss) valued

-- and of the flag, whether it is set
pub flag_found : (ss : List Setting) → one_of (long_name All) (with_flag (map row ss)) ≡ Some (bool_text (list_any (is_of All) ss))
flag_found ss = go (list_any (is_of All) ss) refl
  where
    go : (b : Bool) → list_any (is_of All) ss ≡ b → one_of (long_name All) (with_flag (map row ss)) ≡ Some (bool_text b)
    go true is = ap (one_of (long_name All)) (with_flag-set (map row ss) (has_row-row All ss ∙ is)) ∙ set_text All ss refl is
    go false is =
        let none : has_row (long_name All) (map row ss) ≡ false = has_row-row All ss ∙ is in
        ap (one_of (long_name All)) (with_flag-unset (map row ss) none) ∙ default_text (map row ss) none
