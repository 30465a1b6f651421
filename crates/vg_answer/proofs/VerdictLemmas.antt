-- What is said of one net more, and of the same nets again.
use Rattle.std.proofs.Common.{◌≡◌, ℕ, ◌+◌, Bool, true, false, ◌||◌, List, [], ◌∷◌, ◌++◌, map, take, Some, refl, sym, ap, ◌∙◌, subst}
use Rattle.std.specs.Prelude.{cond, filter, if◌then◌else◌}
use Rattle.std.specs.List.{AllZip, flat_map, list_any, slice_get}
use Rattle.std.proofs.lemmas.List.{append-nil, map-append, take_more}
use Rattle.std.proofs.lemmas.Option.{get_or_from_slice_get, slice_get_within}
use Rattle.std.proofs.lemmas.List.Concat.{flat_map-append}
use Rattle.std.proofs.lemmas.List.Folds.{list_any-append}
use Rattle.std.proofs.lemmas.List.Elements.{filter-append}
use Rattle.vg_answer.specs.Verdicts.{Verdict, AreSaid, SaysOfNet, bare_verdict, is_invalid, is_none_good, is_refusal, kind_in, kind_of, put_in, text_in, worse}
use Rattle.vg_answer.specs.declared.kind.AnswerKind.{AnswerKind}
use Rattle.vg_answer.specs.declared.kind.AnswerKind.TheVariants.{Report, NoneGood, Refusal, Invalid}

-- ---- kinds

-- whether there is a refusal, a certificate that is not valid, and a net without a good placement
abbrev kind_by : Bool → Bool → Bool → AnswerKind
kind_by a b c = if a then Refusal else (if b then Invalid else (if c then NoneGood else Report))

by_cases : (a b c : Bool) (k : AnswerKind) → kind_by (a || list_any is_refusal (k ∷ [])) (b || list_any is_invalid (k ∷ [])) (c || list_any is_none_good (k ∷ [])) ≡ worse (kind_by a b c) k
by_cases true true true Report = refl
by_cases true true true NoneGood = refl
by_cases true true true Refusal = refl
by_cases true true true Invalid = refl
by_cases true true false Report = refl
by_cases true true false NoneGood = refl
by_cases true true false Refusal = refl
by_cases true true false Invalid = refl
by_cases true false true Report = refl
by_cases true false true NoneGood = refl
by_cases true false true Refusal = refl
by_cases true false true Invalid = refl
by_cases true false false Report = refl
by_cases true false false NoneGood = refl
by_cases true false false Refusal = refl
by_cases true false false Invalid = refl
by_cases false true true Report = refl
by_cases false true true NoneGood = refl
by_cases false true true Refusal = refl
by_cases false true true Invalid = refl
by_cases false true false Report = refl
by_cases false true false NoneGood = refl
by_cases false true false Refusal = refl
by_cases false true false Invalid = refl
by_cases false false true Report = refl
by_cases false false true NoneGood = refl
by_cases false false true Refusal = refl
by_cases false false true Invalid = refl
by_cases false false false Report = refl
by_cases false false false NoneGood = refl
by_cases false false false Refusal = refl
by_cases false false false Invalid = refl

pub kind_more : (kinds : List AnswerKind) (k : AnswerKind) → kind_of (kinds ++ k ∷ []) ≡ worse (kind_of kinds) k
kind_more kinds k =
    (λ i. kind_by (list_any-append is_refusal kinds (k ∷ []) i) (list_any-append is_invalid kinds (k ∷ []) i) (list_any-append is_none_good kinds (k ∷ []) i))
    ∙ by_cases (list_any is_refusal kinds) (list_any is_invalid kinds) (list_any is_none_good kinds) k

kind_one : (k : AnswerKind) → kind_of (k ∷ []) ≡ k
kind_one Report = refl
kind_one NoneGood = refl
kind_one Refusal = refl
kind_one Invalid = refl

-- a report beside an answer is nothing
pub worse_report : (k : AnswerKind) → k ≡ worse k Report
worse_report Report = refl
worse_report NoneGood = refl
worse_report Refusal = refl
worse_report Invalid = refl

-- ---- one net more

pub zip_more : {A B : Type 0} (R : A → B → Type 0) (xs : List A) (ys : List B) (x : A) (y : B) → AllZip R xs ys → R x y → AllZip R (xs ++ x ∷ []) (ys ++ y ∷ [])
zip_more R [] [] x y all here = (here, tt)
zip_more R [] (b ∷ ys) x y all here = absurd all
zip_more R (a ∷ xs) [] x y all here = absurd all
zip_more R (a ∷ xs) (b ∷ ys) x y all here = (all.0, zip_more R xs ys x y all.1 here)

pub flat_more : {A B : Type 0} (f : A → List B) (xs : List A) (x : A) → flat_map f (xs ++ x ∷ []) ≡ flat_map f xs ++ f x
flat_more f xs x = flat_map-append f xs (x ∷ []) ∙ ap (λ l. flat_map f xs ++ l) (append-nil (f x))

module _ (Says : List ℕ → Verdict → Type 0) where
  pub said_nothing : AreSaid Says [] Report []
  said_nothing = record { verdicts = []; each = tt; kind_is = refl; text_is = refl }

  -- one net alone
  pub said_one : (name : List ℕ) (v : Verdict) → Says name v → AreSaid Says (name ∷ []) v.kind v.text
  said_one name v says = record { verdicts = v ∷ []; each = (says, tt); kind_is = sym (kind_one v.kind); text_is = sym (append-nil v.text) }

  module _ (names : List (List ℕ)) (kind : AnswerKind) (text : List ℕ) (said : AreSaid Says names kind text) (name : List ℕ) (v : Verdict) (says : Says name v) where
    pub said_more : AreSaid Says (names ++ name ∷ []) (worse kind v.kind) (text ++ v.text)
    said_more = record {
      verdicts = said.verdicts ++ v ∷ [];
      each = zip_more Says names said.verdicts name v said.each says;
      kind_is =
          ap (λ k. worse k v.kind) said.kind_is ∙ sym (kind_more (map kind_in said.verdicts) v.kind) ∙ ap kind_of (sym (map-append kind_in said.verdicts (v ∷ [])));
      text_is = ap (λ t. t ++ v.text) said.text_is ∙ sym (flat_more text_in said.verdicts v);
    }

    pub put_more : flat_map put_in said_more.verdicts ≡ flat_map put_in said.verdicts ++ v.put
    unfolding said_more
    put_more = flat_more put_in said.verdicts v

-- ---- the same nets again

-- where each net's kind is determined, that of all is
kinds_same : (Says : List ℕ → Verdict → Type 0) → ((name : List ℕ) (u v : Verdict) → Says name u → Says name v → u.kind ≡ v.kind)
    → (names : List (List ℕ)) (us vs : List Verdict) → AllZip Says names us → AllZip Says names vs → map kind_in us ≡ map kind_in vs
kinds_same Says one [] [] [] a b = refl
kinds_same Says one [] [] (v ∷ vs) a b = absurd b
kinds_same Says one [] (u ∷ us) vs a b = absurd a
kinds_same Says one (name ∷ names) [] vs a b = absurd a
kinds_same Says one (name ∷ names) (u ∷ us) [] a b = absurd b
kinds_same Says one (name ∷ names) (u ∷ us) (v ∷ vs) a b = λ i. one name u v a.0 b.0 i ∷ kinds_same Says one names us vs a.1 b.1 i

pub one_kind_of_all : (Says : List ℕ → Verdict → Type 0) → ((name : List ℕ) (u v : Verdict) → Says name u → Says name v → u.kind ≡ v.kind)
    → (names : List (List ℕ)) (a b : AnswerKind) (s t : List ℕ) → AreSaid Says names a s → AreSaid Says names b t → a ≡ b
one_kind_of_all Says one names a b s t p q =
    p.kind_is ∙ ap kind_of (kinds_same Says one names p.verdicts q.verdicts p.each q.each) ∙ sym q.kind_is

-- ---- the names so far

pub take_next : (names : List (List ℕ)) (at : ℕ) (name : List ℕ) → slice_get names at ≡ Some name → take (at + 1) names ≡ take at names ++ name ∷ []
take_next names at name here =
    take_more names at name (slice_get_within names at name here) ∙ ap (λ (n : List ℕ). take at names ++ n ∷ []) (get_or_from_slice_get names at name name here)

-- those that are kept of them
kept_both : (test : List ℕ → Bool) (names : List (List ℕ)) (at : ℕ) (name : List ℕ) → slice_get names at ≡ Some name
    → filter test (take (at + 1) names) ≡ filter test (take at names) ++ filter test (name ∷ [])
kept_both test names at name here = ap (filter test) (take_next names at name here) ∙ filter-append test (take at names) (name ∷ [])

pub kept_next : (test : List ℕ → Bool) (names : List (List ℕ)) (at : ℕ) (name : List ℕ) → slice_get names at ≡ Some name → test name ≡ true
    → filter test (take (at + 1) names) ≡ filter test (take at names) ++ name ∷ []
kept_next test names at name here passes =
    kept_both test names at name here ∙ ap (λ (b : Bool). filter test (take at names) ++ cond b (name ∷ []) []) passes

pub passed_next : (test : List ℕ → Bool) (names : List (List ℕ)) (at : ℕ) (name : List ℕ) → slice_get names at ≡ Some name → test name ≡ false
    → filter test (take (at + 1) names) ≡ filter test (take at names)
passed_next test names at name here fails =
    kept_both test names at name here ∙ ap (λ (b : Bool). filter test (take at names) ++ cond b (name ∷ []) []) fails ∙ append-nil (filter test (take at names))

-- ---- a text that grows

pub said_as : (Says : List ℕ → Verdict → Type 0) {names others : List (List ℕ)} {kind other : AnswerKind} {text new : List ℕ} → names ≡ others → kind ≡ other → text ≡ new
    → AreSaid Says names kind text → AreSaid Says others other new
said_as Says same_names same_kind same_text said = record {
  verdicts = said.verdicts;
  each = subst (λ names. AllZip Says names said.verdicts) same_names said.each;
  kind_is = sym same_kind ∙ said.kind_is;
  text_is = sym same_text ∙ said.text_is;
}

pub said_net : (Says : List ℕ → Verdict → Type 0) {names : List (List ℕ)} {kind more : AnswerKind} {old new : List ℕ} → AreSaid Says names kind old → (name : List ℕ)
    → SaysOfNet (Says name) more old new → AreSaid Says (names ++ name ∷ []) (worse kind more) new
said_net Says {names} {kind} {more} {old} said name one =
    said_as Says refl refl (sym one.is) (said_more Says names kind old said name (bare_verdict more one.text) one.says)

-- the first one
pub first_net : (Says : List ℕ → Verdict → Type 0) (name : List ℕ) (kind : AnswerKind) (old new : List ℕ) → old ≡ [] → SaysOfNet (Says name) kind old new
    → AreSaid Says (name ∷ []) kind new
first_net Says name kind old new none one =
    said_as Says refl refl (sym (one.is ∙ ap (λ (text : List ℕ). text ++ one.text) none)) (said_one Says name (bare_verdict kind one.text) one.says)
