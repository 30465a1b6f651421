-- Where the tokens of a text are a library, each statement has a name that was read for it.
use Rattle.std.proofs.Common.{◌≡◌, ℕ, suc, ◌+◌, ◌<◌, ◌≤◌, ◌==◌, cond, Bool, true, false, List, [], ◌∷◌, ◌++◌, map, Some, None, refl, sym, ap, ◌∙◌, arith, length, codes}
use Rattle.std.specs.List.{All}
use Rattle.std.specs.Str.{bytes_eq}
use Rattle.std.proofs.lemmas.List.Elements.{All-cons, All-nil}
use Rattle.vg_scan.specs.Lines.{part}
use Rattle.lib_text.specs.declared.token.Token.{Token}
use Rattle.lib_text.specs.declared.token.TokenKind.TheVariants.{Word, Value, List as IsList, Broken, Mark}
use Rattle.lib_text.specs.declared.kind.Kind.{Kind}
use Rattle.lib_text.specs.declared.statement.Statement.{Statement}
use Rattle.lib_text.specs.Arguments.{arguments_of, are_names}
use Rattle.lib_text.specs.Kinds.{word_kind, list_kind, mark_kind, kind_in, kinds_of}
use Rattle.lib_text.specs.Statements.{open_after, statements_from, statements_of}
use Rattle.lib_text.specs.Syntax.{IsLibrary}
use Rattle.lib_text.specs.Tokens.{token}
use Rattle.lib_laws.proofs.LawNames.{after_kind, after_kinds, library_leads}
use Rattle.lib_laws.proofs.TokenSteps.{ByToken, by_tokens}

-- These statements come next, where each name from here on begins here or further on: one has the name that was read
-- just before here, for no other statement; and a name is read.
data Named : Bool → ℕ → List Statement → Type 0 where
  ends : {fresh : Bool} {low : ℕ} → Named fresh low []
  adds : {low : ℕ} {s : Statement} {ss : List Statement} → suc s.name ≡ low → Named false low ss → Named true low (s ∷ ss)
  reads : {fresh : Bool} {low : ℕ} {ss : List Statement} (next : ℕ) → low ≤ next → Named true (suc next) ss → Named fresh low ss

-- ---- the kinds of tokens

word_turns : (b : Bool) (bytes : List ℕ) → after_kind b (word_kind bytes) ≡ Some true
word_turns b bytes = by_tests (bytes_eq bytes (codes "library")) (bytes_eq bytes (codes "cell")) (bytes_eq bytes (codes "pin")) refl refl refl
  where
    by_tests : (x y z : Bool) → bytes_eq bytes (codes "library") ≡ x → bytes_eq bytes (codes "cell") ≡ y → bytes_eq bytes (codes "pin") ≡ z
        → after_kind b (word_kind bytes) ≡ Some true
    by_tests true y z e f g = rw e refl
    by_tests false true z e f g = rw (e, f) refl
    by_tests false false true e f g = rw (e, f, g) refl
    by_tests false false false e f g = rw (e, f, g) refl

list_turns : (list : List ℕ) → (after_kind true (list_kind list) ≡ Some false) × (after_kind false (list_kind list) ≡ None)
unfolding list_kind
list_turns list = by_tests (are_names list) (length (arguments_of list) == 1) refl refl
  where
    by_tests : (x y : Bool) → are_names list ≡ x → (length (arguments_of list) == 1) ≡ y
        → (after_kind true (list_kind list) ≡ Some false) × (after_kind false (list_kind list) ≡ None)
    by_tests true true e f = rw (e, f) (refl, refl)
    by_tests true false e f = rw (e, f) (refl, refl)
    by_tests false y e f = rw e (refl, refl)

mark_turns : (b : Bool) (m : ℕ) → after_kind b (mark_kind m) ≡ Some b
mark_turns b m = by_tests (m == 58) (m == 40) (m == 41) (m == 123) (m == 125) (m == 59) refl refl refl refl refl refl
  where
    by_tests : (u v w x y z : Bool) → (m == 58) ≡ u → (m == 40) ≡ v → (m == 41) ≡ w → (m == 123) ≡ x → (m == 125) ≡ y → (m == 59) ≡ z
        → after_kind b (mark_kind m) ≡ Some b
    by_tests true v w x y z e f g h i j = rw e refl
    by_tests false true w x y z e f g h i j = rw (e, f) refl
    by_tests false false true x y z e f g h i j = rw (e, f, g) refl
    by_tests false false false true y z e f g h i j = rw (e, f, g, h) refl
    by_tests false false false false true z e f g h i j = rw (e, f, g, h, i) refl
    by_tests false false false false false true e f g h i j = rw (e, f, g, h, i, j) refl
    by_tests false false false false false false e f g h i j = rw (e, f, g, h, i, j) refl

-- ---- the statements of tokens

module _ (text : List ℕ) where
  -- whatever is open, where a name that no statement has yet was read just before here
  abbrev FromHere : ℕ → List Token → Type 0
  FromHere at ts =
      (b c : Bool) → after_kinds (Some b) (map (kind_in text) ts) ≡ Some c → (groups : List ℕ) (name low : ℕ) → low ≤ at
      → (b ≡ true → suc name ≡ low) → Named b low (statements_from groups name ts)

  nothing_left : (at : ℕ) → FromHere at []
  unfolding statements_from
  nothing_left at b c e groups name low l h = ends

  by_word : (at to : ℕ) (ts : List Token) → FromHere (at + 1) ts → FromHere at (token Word at to ∷ ts)
  unfolding statements_from
  by_word at to ts k b c e groups name low l h =
      let f : after_kinds (Some true) (map (kind_in text) ts) ≡ Some c =
      sym (ap (λ o. after_kinds o (map (kind_in text) ts)) (word_turns b (part text at to))) ∙ e in
      reads at l (k true c f groups at (suc at) (omega arith) (λ _. refl))

  by_mark : (at m : ℕ) (ts : List Token) → FromHere (at + 1) ts → FromHere at (token (Mark m) at (at + 1) ∷ ts)
  unfolding statements_from
  by_mark at m ts k b c e groups name low l h =
      let f : after_kinds (Some b) (map (kind_in text) ts) ≡ Some c = sym (ap (λ o. after_kinds o (map (kind_in text) ts)) (mark_turns b m)) ∙ e in
      k b c f (open_after (Mark m) groups name) name low (omega arith) h

  no_kinds : (ks : List Kind) (c : Bool) → after_kinds None ks ≡ Some c → ⊥
  no_kinds ks c e = absurd (cc)

  by_value : (at from to : ℕ) (ts : List Token) → FromHere at ts → FromHere at (token Value from to ∷ ts)
  unfolding statements_from
  by_value at from to ts k true c e groups name low l h = adds (h refl) (k false c e groups name low l (λ x. absurd (cc)))
  by_value at from to ts k false c e groups name low l h = absurd (no_kinds (map (kind_in text) ts) c e)

  by_list : (at from to : ℕ) (ts : List Token) → FromHere at ts → FromHere at (token IsList from to ∷ ts)
  unfolding statements_from
  by_list at from to ts k true c e groups name low l h =
      let f : after_kinds (Some false) (map (kind_in text) ts) ≡ Some c =
      sym (ap (λ o. after_kinds o (map (kind_in text) ts)) (list_turns (part text from to)).0) ∙ e in
      adds (h refl) (k false c f groups name low l (λ x. absurd (cc)))
  by_list at from to ts k false c e groups name low l h =
      absurd (no_kinds (map (kind_in text) ts) c (sym (ap (λ o. after_kinds o (map (kind_in text) ts)) (list_turns (part text from to)).1) ∙ e))

  by_broken : (at from to : ℕ) (ts : List Token) → FromHere at ts → FromHere at (token Broken from to ∷ ts)
  unfolding statements_from
  by_broken at from to ts k b c e groups name low l h = k b c e groups name low l h

  each_token : ByToken FromHere
  each_token = record {
    none = nothing_left;
    later = λ at ts k b c e groups name low l h. k b c e groups name low (omega arith) h;
    word = by_word;
    mark = by_mark;
    value = by_value;
    list = by_list;
    broken = by_broken;
  }

  named : IsLibrary text → Named false 0 (statements_of text)
  named is = by_tokens FromHere each_token 0 0 text false false (library_leads (kinds_of text) is) [] 0 0 (omega arith) (λ x. absurd (cc))

-- ---- a statement, and those after it

after_one : {fresh : Bool} {low : ℕ} {all : List Statement} (before : List Statement) (s : Statement) (after : List Statement)
    → Named fresh low all → all ≡ before ++ s ∷ after → Named false (suc s.name) after
after_one [] s after ends e = absurd (cc)
after_one (b ∷ before) s after ends e = absurd (cc)
after_one [] s after (adds {s = t} {ss} n k) e =
    let x : t ≡ s = cc in
    let y : ss ≡ after = cc in
    rw (← x, ← y) (rw n k)
after_one (b ∷ before) s after (adds {s = t} {ss} n k) e = let y : ss ≡ before ++ s ∷ after = cc in after_one before s after k y
after_one before s after (reads next l k) e = after_one before s after k e

at_least : (fresh : Bool) (place low : ℕ) → place + cond fresh 1 0 < low → place < low
at_least true place low l = omega arith
at_least false place low l = omega arith

above : {fresh : Bool} {low : ℕ} {all : List Statement} (place : ℕ) → place + cond fresh 1 0 < low → Named fresh low all
    → All (λ (s : Statement). place < s.name) all
above place l ends = All-nil (λ (s : Statement). place < s.name)
above place l (adds {s} {ss} n k) = All-cons (λ (s : Statement). place < s.name) s ss (omega (arith, n)) (above place (omega arith) k)
above {fresh} {low} place l (reads next m k) = let h = at_least fresh place low l in above place (omega (arith, h)) k

pub own_names : (text : List ℕ) → IsLibrary text → (before : List Statement) (s : Statement) (after : List Statement)
    → statements_of text ≡ before ++ s ∷ after → All (λ (t : Statement). s.name < t.name) after
own_names text is before s after e = above s.name (omega arith) (after_one before s after (named text is) e)
