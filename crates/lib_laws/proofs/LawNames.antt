-- In a library each statement has a name of its own.
use Rattle.std.proofs.Common.{◌≡◌, arith, ℕ, suc, Bool, true, false, ◌||◌, not, List, [], ◌∷◌, ◌++◌, Option, Some, None, refl, ap, ◌∙◌}
use Rattle.std.specs.List.{list_all}
use Rattle.grammar_laws.specs.Grammar.{Part, Derives}
use Rattle.grammar_laws.specs.Grammar.Part.{one, nothing, both, either, many, named}
use Rattle.grammar_laws.specs.Grammar.Derives.{by_one, by_nothing, by_both, by_left, by_right, by_none, by_more, by_name}
use Rattle.lib_text.specs.declared.kind.Kind.{Kind}
use Rattle.lib_text.specs.declared.kind.Kind.TheVariants.{Library, Cell, Pin, Word, Colon, Value, Open, Single, Several, Other, Close, Begin, End, Semicolon, Stray}
use Rattle.lib_text.specs.Grammar.{Name, rules, library, is_library, is_cell, is_pin, is_word, is_single, is_names, is_list, is_no_cell, is_no_pin, simple, complex, group}
use Rattle.lib_text.specs.Grammar.Name.{in_library, in_cell, inside}

-- whether a name was read that no statement has yet, after this token; none where a content stands without one
abbrev pub after_kind : Bool → Kind → Option Bool
after_kind b Library = Some true
after_kind b Cell = Some true
after_kind b Pin = Some true
after_kind b Word = Some true
after_kind true Value = Some false
after_kind true Single = Some false
after_kind true Several = Some false
after_kind true Other = Some false
after_kind false Value = None
after_kind false Single = None
after_kind false Several = None
after_kind false Other = None
after_kind b _ = Some b

-- after these tokens
abbrev pub after_kinds : Option Bool → List Kind → Option Bool
after_kinds None ks = None
after_kinds (Some b) [] = Some b
after_kinds (Some b) (k ∷ ks) = after_kinds (after_kind b k) ks

-- this is what there is after a token
abbrev pub is_after : Bool → Option Bool → Bool
is_after c None = false
is_after true (Some b) = b
is_after false (Some b) = not b

-- a token, if it passes the test, leads from one to the other
abbrev pub leads_on : Bool → Bool → (Kind → Bool) → Kind → Bool
leads_on b c test k = is_after c (after_kind b k) || not (test k)

-- the kinds of tokens
abbrev pub kinds : List Kind
kinds = Library ∷ Cell ∷ Pin ∷ Word ∷ Colon ∷ Value ∷ Open ∷ Single ∷ Several ∷ Other ∷ Close ∷ Begin ∷ End ∷ Semicolon ∷ Stray ∷ []

-- a part of a grammar leads from one to the other
pub data Leads {N : Type 0} : Bool → Part N Kind → Bool → Type 0 where
  by_kind : {b : Bool} {test : Kind → Bool} (c : Bool) → list_all (leads_on b c test) kinds ≡ true → Leads b (one test) c
  by_nil : {b : Bool} → Leads b nothing b
  in_turn : {b c d : Bool} {p q : Part N Kind} → Leads b p c → Leads c q d → Leads b (both p q) d
  by_choice : {b c : Bool} {p q : Part N Kind} → Leads b p c → Leads b q c → Leads b (either p q) c
  by_many : {b : Bool} {p : Part N Kind} → Leads b p b → Leads b (many p) b
  by_rule : {n : N} → Leads false (named n) false

then_kinds : (o : Option Bool) (xs ys : List Kind) → after_kinds o (xs ++ ys) ≡ after_kinds (after_kinds o xs) ys
then_kinds None [] [] = refl
then_kinds None [] (y ∷ ys) = refl
then_kinds None (x ∷ xs) ys = refl
then_kinds (Some b) [] ys = refl
then_kinds (Some b) (x ∷ xs) ys = then_kinds (after_kind b x) xs ys

join : (b c d : Bool) (xs ys : List Kind) → after_kinds (Some b) xs ≡ Some c → after_kinds (Some c) ys ≡ Some d → after_kinds (Some b) (xs ++ ys) ≡ Some d
join b c d xs ys e f = then_kinds (Some b) xs ys ∙ ap (λ o. after_kinds o ys) e ∙ f

each_kind : (test : Kind → Bool) → list_all test kinds ≡ true → (k : Kind) → test k ≡ true
each_kind test all Library = grind (arith, all)
each_kind test all k = grind (arith, all)

told : (o : Option Bool) (c passes : Bool) → (is_after c o || not passes) ≡ true → passes ≡ true → o ≡ Some c
told None c true e f = absurd (cc)
told (Some true) true true e f = refl
told (Some false) false true e f = refl
told (Some true) false true e f = absurd (cc)
told (Some false) true true e f = absurd (cc)
told o c false e f = absurd (cc)

module _ {N : Type 0} (grammar : N → Part N Kind) (each : (n : N) → Leads false (grammar n) false) where
  pub leads : {b c : Bool} {p : Part N Kind} {ks : List Kind} → Leads b p c → Derives grammar p ks → after_kinds (Some b) ks ≡ Some c
  leads {b} (by_kind {test} c all) (by_one {t} e) = ap (λ o. after_kinds o []) (told (after_kind b t) c (test t) (each_kind (leads_on b c test) all t) e)
  leads by_nil by_nothing = refl
  leads {b} {c} (in_turn {c = m} l r) (by_both {xs} {ys} d k) = join b m c xs ys (leads {b = b} {c = m} l d) (leads {b = m} {c = c} r k)
  leads {b} {c} (by_choice l r) (by_left d) = leads {b = b} {c = c} l d
  leads {b} {c} (by_choice l r) (by_right d) = leads {b = b} {c = c} r d
  leads (by_many l) by_none = refl
  leads {b} (by_many l) (by_more {xs} {ys} d k) = join b b b xs ys (leads {b = b} {c = b} l d) (leads {b = b} {c = b} (by_many l) k)
  leads (by_rule {n}) (by_name d) = leads {b = false} {c = false} (each n) d

-- ---- the parts of the grammar of a library

simple_leads : Leads false simple false
simple_leads = in_turn (by_kind true refl) (in_turn (by_kind true refl) (in_turn (by_kind false refl) by_nil))

complex_leads : Leads false complex false
complex_leads =
    in_turn (by_kind true refl) (in_turn (by_kind true refl) (in_turn (by_kind false refl) (in_turn (by_kind false refl) by_nil)))

group_leads : (word names : Kind → Bool) (inner : Name) (depth : ℕ) → list_all (leads_on false true word) kinds ≡ true
    → list_all (leads_on true false names) kinds ≡ true → Leads false (group word names inner depth) false
group_leads word names inner depth w l =
    in_turn (by_kind true w) (in_turn (by_kind true refl) (in_turn (by_kind false l) (in_turn (by_kind false refl)
    (in_turn (by_kind false refl) (in_turn (by_many by_rule) (in_turn (by_kind false refl) by_nil))))))

each_rule : (n : Name) → Leads false (rules n) false
each_rule in_library =
    by_choice (by_kind false refl) (by_choice simple_leads (by_choice complex_leads
    (by_choice (group_leads is_cell is_single in_cell 1 refl refl) (group_leads is_no_cell is_list (inside 2) 1 refl refl))))
each_rule in_cell =
    by_choice (by_kind false refl) (by_choice simple_leads (by_choice complex_leads
    (by_choice (group_leads is_pin is_names (inside 3) 2 refl refl) (group_leads is_no_pin is_list (inside 3) 2 refl refl))))
each_rule (inside depth) =
    by_choice (by_kind false refl) (by_choice simple_leads (by_choice complex_leads
    (group_leads is_word is_list (inside (suc depth)) depth refl refl)))

pub library_leads : (ks : List Kind) → Derives rules library ks → after_kinds (Some false) ks ≡ Some false
library_leads ks d = leads rules each_rule (group_leads is_library is_list in_library 0 refl refl) d
