-- The kinds of the tokens of a module: it begins with `module` and ends with `endmodule`, which stands nowhere before.
use Rattle.std.proofs.Common.{◌≡◌, Bool, true, false, not, ◌&&◌, ◌||◌, List, [], ◌∷◌, ◌++◌, refl, sym, ap, ◌∙◌, subst, append_assoc}
use Rattle.std.specs.List.{list_any}
use Rattle.std.proofs.lemmas.Bool.{and_parts}
use Rattle.grammar_laws.specs.Grammar.{Part, Derives, Begins}
use Rattle.grammar_laws.specs.Grammar.Part.{one, nothing, both, either, many, named}
use Rattle.grammar_laws.specs.Grammar.Derives.{by_one, by_nothing, by_both, by_left, by_right, by_none, by_more, by_name}
use Rattle.grammar_laws.specs.Grammar.Begins.{at_start, at_one, in_first, in_rest, in_left, in_right, in_member}
use Rattle.ver_text.specs.declared.kind.Kind.{Kind}
use Rattle.ver_text.specs.declared.kind.Kind.TheVariants.{Module, EndModule, Assign, Identifier, Semicolon}
use Rattle.ver_syntax.specs.Grammar.{Name, is, the, opt, ports, item, rules, module_declaration}
use Rattle.ver_syntax.specs.Grammar.Name.{expression}
use Rattle.ver_syntax.specs.Syntax.{AreModule}

-- ---- no `endmodule`

-- no token of a part is `endmodule`, but perhaps one of a rule that it names
abbrev has_no_end : Part Name Kind → Bool
has_no_end (one test) = not (test EndModule)
has_no_end nothing = true
has_no_end (both a b) = has_no_end a && has_no_end b
has_no_end (either a b) = has_no_end a && has_no_end b
has_no_end (many a) = has_no_end a
has_no_end (named n) = true

-- one of these is `endmodule`
abbrev pub has_end : List Kind → Bool
has_end kinds = list_any (is EndModule) kinds

no_end_in_rules : (n : Name) → has_no_end (rules n) ≡ true
no_end_in_rules expression = refl

no_end_token : (test : Kind → Bool) (t : Kind) → test t ≡ true → not (test EndModule) ≡ true → has_end (t ∷ []) ≡ false
no_end_token test EndModule e h = let f : not true ≡ true = subst (λ b. not b ≡ true) e h in absurd (cc)
no_end_token test t e h = refl

no_end_append : (xs ys : List Kind) → has_end xs ≡ false → has_end ys ≡ false → has_end (xs ++ ys) ≡ false
no_end_append [] ys e f = f
no_end_append (x ∷ xs) ys e f = here (is EndModule x) e (λ g. no_end_append xs ys g f)
  where
    here : (b : Bool) → (b || has_end xs) ≡ false → (has_end xs ≡ false → has_end (xs ++ ys) ≡ false) → (b || has_end (xs ++ ys)) ≡ false
    here true g others = absurd (cc)
    here false g others = others g

no_end : {part : Part Name Kind} {kinds : List Kind} → Derives rules part kinds → has_no_end part ≡ true → has_end kinds ≡ false
no_end (by_one {test = test} {t = t} e) h = no_end_token test t e h
no_end by_nothing h = refl
no_end (by_both {a = a} {b = b} {xs = xs} {ys = ys} d k) h =
    let (f, g) = and_parts (has_no_end a) (has_no_end b) h in no_end_append xs ys (no_end d f) (no_end k g)
no_end (by_left {a = a} {b = b} d) h = no_end d (and_parts (has_no_end a) (has_no_end b) h).0
no_end (by_right {a = a} {b = b} d) h = no_end d (and_parts (has_no_end a) (has_no_end b) h).1
no_end by_none h = refl
no_end (by_more {xs = xs} {ys = ys} d k) h = no_end_append xs ys (no_end d h) (no_end k h)
no_end (by_name {n = n} d) h = no_end d (no_end_in_rules n)

-- ---- the parts of a derivation

derives_one : {test : Kind → Bool} {kinds : List Kind} → Derives rules (one test) kinds → (t : Kind) × (test t ≡ true) × (kinds ≡ t ∷ [])
derives_one (by_one {t = t} h) = (t, h, refl)

derives_nothing : {kinds : List Kind} → Derives rules nothing kinds → kinds ≡ []
derives_nothing by_nothing = refl

derives_both : {a b : Part Name Kind} {kinds : List Kind} → Derives rules (both a b) kinds
    → (xs : List Kind) × (ys : List Kind) × Derives rules a xs × Derives rules b ys × (kinds ≡ xs ++ ys)
derives_both (by_both {xs = xs} {ys = ys} d e) = (xs, ys, d, e, refl)

is_module : (k : Kind) → is Module k ≡ true → k ≡ Module
is_module Module e = refl
is_module k e = absurd (cc)

is_end : (k : Kind) → is EndModule k ≡ true → k ≡ EndModule
is_end EndModule e = refl
is_end k e = absurd (cc)

just_module : {kinds : List Kind} → Derives rules (the Module) kinds → kinds ≡ Module ∷ []
just_module d = let (t, h, e) = derives_one d in e ∙ ap (λ k. k ∷ []) (is_module t h)

just_end : {kinds : List Kind} → Derives rules (both (the EndModule) nothing) kinds → kinds ≡ EndModule ∷ []
just_end d =
    let (xs, ys, first, rest, e) = derives_both d in
    let (t, h, f) = derives_one first in
    e ∙ (λ i. f i ++ derives_nothing rest i) ∙ ap (λ k. k ∷ []) (is_end t h)

-- ---- a module

-- a module begins with `module`; after these tokens of it an item may come, or `endmodule`, which is none of them
pub record IsShaped (kinds : List Kind) : Type 0 where
  pub middle : List Kind
  pub is : kinds ≡ Module ∷ (middle ++ EndModule ∷ [])
  pub no_end : has_end middle ≡ false
  pub goes_on : (next : List Kind) → Begins rules item next → Begins rules module_declaration (Module ∷ (middle ++ next))

regroup : (a b c d rest : List Kind) → (a ++ (b ++ (c ++ d))) ++ rest ≡ a ++ (b ++ (c ++ (d ++ rest)))
regroup a b c d rest = simp append_assoc

shape_of : (name list mark items : List Kind) → Derives rules (the Identifier) name → Derives rules (opt ports) list → Derives rules (the Semicolon) mark
    → Derives rules (many item) items → IsShaped (Module ∷ ((name ++ (list ++ (mark ++ items))) ++ EndModule ∷ []))
shape_of name list mark items a b c d = record {
  middle = name ++ (list ++ (mark ++ items));
  is = refl;
  no_end = no_end {part = both (the Identifier) (both (opt ports) (both (the Semicolon) (many item)))} (by_both a (by_both b (by_both c d))) refl;
  goes_on = λ next begins.
      subst (λ kinds. Begins rules module_declaration (Module ∷ kinds)) (sym (regroup name list mark items next))
      (in_rest {xs = Module ∷ []} (by_one refl) (in_rest a (in_rest b (in_rest c (in_first (in_member d begins))))));
}

pub shape : (kinds : List Kind) → AreModule kinds → IsShaped kinds
shape kinds module' =
    let (first, r0, d0, m0, e0) = derives_both module' in
    let (name, r1, d1, m1, e1) = derives_both m0 in
    let (list, r2, d2, m2, e2) = derives_both m1 in
    let (mark, r3, d3, m3, e3) = derives_both m2 in
    let (items, r4, d4, m4, e4) = derives_both m3 in
    let rest : r0 ≡ (name ++ (list ++ (mark ++ items))) ++ EndModule ∷ []
    = e1 ∙ ap (λ r. name ++ r) (e2 ∙ ap (λ r. list ++ r) (e3 ∙ ap (λ r. mark ++ r) (e4 ∙ ap (λ r. items ++ r) (just_end m4))))
    ∙ sym (regroup name list mark items (EndModule ∷ [])) in
    subst IsShaped (sym (e0 ∙ (λ i. just_module d0 i ++ rest i))) (shape_of name list mark items d1 d2 d3 d4)

-- an item may begin after these tokens
pub item_begins : Begins rules item (Assign ∷ [])
item_begins = in_right (in_right (in_left (in_first (at_one refl))))

pub none_begins : Begins rules item []
none_begins = at_start
