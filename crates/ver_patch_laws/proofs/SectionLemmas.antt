-- The sections of rows in which connections are replaced.
use Rattle.std.proofs.lemmas.List.{map-append}
use Rattle.std.proofs.Common.{◌≡◌, ℕ, Bool, true, false, cond, List, [], ◌∷◌, ◌++◌, map, refl, sym, ap, ◌∙◌, subst, ◌&&◌}
use Rattle.std.specs.Prelude.{⊤}
use Rattle.std.specs.List.{before_first, flat_map}
use Rattle.ver_text.specs.Names.{name_of}
use Rattle.ver_text.specs.declared.kind.Kind.TheVariants.{Identifier}
use Rattle.ver_syntax.specs.Grammar.{is}
use Rattle.ver_patch_laws.proofs.ChangedLemmas.AreChanged.{none, kept, replaced}
use Rattle.ver_syntax.specs.declared.row.Place.{Place}
use Rattle.ver_syntax.specs.declared.row.Place.TheVariants.{Start, Instances, Pins, Connection as InConnection}
use Rattle.ver_syntax.specs.declared.row.Row.{Row}
use Rattle.ver_items.specs.Sections.{Section, instances_in, is_identifier, is_name_in, is_place, name_at, pins_in, section_before, sections, stands_in}
use Rattle.ver_module.specs.Netlists.{Pin}
use Rattle.ver_file.specs.Netlists.{instance_of, instances_by, pin_of}
use Rattle.ver_patch.proofs.StandLemmas.{before_others, no_sections, sections_by}
use Rattle.ver_patch_text_laws.proofs.RunLemmas.{EachRow}
use Rattle.ver_patch_text_laws.proofs.SectionLemmas.{Next}
use Rattle.ver_patch_laws.specs.Shapes.{shape_of}
use Rattle.ver_patch_laws.proofs.ChangedLemmas.{AreChanged, InOne, IsSame}

-- ---- sections of rows one after another

pub before_append : (test : Row → Bool) (xs ys : List Row) → Next test ys → before_first test (xs ++ ys) ≡ before_first test xs
before_append test [] [] h = refl
before_append test [] (y ∷ ys) h = before_others test y ys true h
before_append test (x ∷ xs) ys h =
    before_others test x (xs ++ ys) (test x) refl
    ∙ ap (λ rs. cond (test x) [] (x ∷ rs)) (before_append test xs ys h)
    ∙ sym (before_others test x xs (test x) refl)

pub sections_append : (test : Row → Bool) (xs ys : List Row) → Next test ys → sections test (xs ++ ys) ≡ sections test xs ++ sections test ys
sections_append test [] ys h = ap (λ ss. ss ++ sections test ys) (sym (no_sections test))
sections_append test (x ∷ xs) ys h = by_test (test x) refl (sections_append test xs ys h)
  where
    by_test : (b : Bool) → test x ≡ b → sections test (xs ++ ys) ≡ sections test xs ++ sections test ys
        → sections test (x ∷ (xs ++ ys)) ≡ sections test (x ∷ xs) ++ sections test ys
    by_test true t e =
        sections_by test x (xs ++ ys) true t
        ∙ (λ i. record { head = x; body = before_append test xs ys h i } ∷ e i)
        ∙ ap (λ ss. ss ++ sections test ys) (sym (sections_by test x xs true t))
    by_test false t e = sections_by test x (xs ++ ys) false t ∙ e ∙ ap (λ ss. ss ++ sections test ys) (sym (sections_by test x xs false t))

-- rows that begin nothing
pub sections_skip : (test : Row → Bool) (xs ys : List Row) → EachRow (λ r. test r ≡ false) xs → sections test (xs ++ ys) ≡ sections test ys
sections_skip test [] ys h = refl
sections_skip test (x ∷ xs) ys h = sections_by test x (xs ++ ys) false h.0 ∙ sections_skip test xs ys h.1

pub before_skip : (test : Row → Bool) (xs ys : List Row) → EachRow (λ r. test r ≡ false) xs → before_first test (xs ++ ys) ≡ xs ++ before_first test ys
before_skip test [] ys h = refl
before_skip test (x ∷ xs) ys h = before_others test x (xs ++ ys) false h.0 ∙ ap (λ rs. x ∷ rs) (before_skip test xs ys h.1)

-- ---- sections of changed rows

module _ (text new : List ℕ) where
  -- sections of the same heads, whose rows are changed
  unfoldable pub ArePaired : List Section → List Section → Type 0
  ArePaired [] [] = ⊤
  ArePaired [] (t ∷ ts) = ⊥
  ArePaired (s ∷ ss) [] = ⊥
  ArePaired (s ∷ ss) (t ∷ ts) = IsSame text new s.head t.head × AreChanged text new s.body t.body × ArePaired ss ts

  module _ (test : Row → Bool) (alike : (r q : Row) → r.place ≡ q.place → r.kind ≡ q.kind → test r ≡ test q) (off : (r : Row) → InOne r → test r ≡ false) where
    all_off : (rows : List Row) → EachRow InOne rows → EachRow (λ r. test r ≡ false) rows
    all_off [] h = tt
    all_off (r ∷ rows) h = (off r h.0, all_off rows h.1)

    pub before_changed : (rows others : List Row) → AreChanged text new rows others → AreChanged text new (before_first test rows) (before_first test others)
    before_changed _ _ none = none
    before_changed _ _ (kept {r} {q} {rows} {others} same more) = by_test (test r) refl (before_changed rows others more)
      where
        by_test : (b : Bool) → test r ≡ b → AreChanged text new (before_first test rows) (before_first test others)
            → AreChanged text new (before_first test (r ∷ rows)) (before_first test (q ∷ others))
        by_test true t h =
            subst (λ xs. AreChanged text new xs (before_first test (q ∷ others))) (sym (before_others test r rows true t))
            (subst (AreChanged text new []) (sym (before_others test q others true (sym (alike r q same.place same.kind) ∙ t))) none)
        by_test false t h =
            subst (λ xs. AreChanged text new xs (before_first test (q ∷ others))) (sym (before_others test r rows false t))
            (subst (AreChanged text new (r ∷ before_first test rows)) (sym (before_others test q others false (sym (alike r q same.place same.kind)
            ∙ t))) (kept same h))
    before_changed _ _ (replaced old made rows others each each' more) =
        subst (λ xs. AreChanged text new xs (before_first test (made ++ others))) (sym (before_skip test old rows (all_off old each)))
        (subst (AreChanged text new (old ++ before_first test rows)) (sym (before_skip test made others (all_off made each')))
        (replaced old made (before_first test rows) (before_first test others) each each' (before_changed rows others more)))

    pub sections_changed : (rows others : List Row) → AreChanged text new rows others → ArePaired (sections test rows) (sections test others)
    unfolding ArePaired
    sections_changed _ _ none =
        subst (λ ss. ArePaired ss (sections test [])) (sym (no_sections test)) (subst (ArePaired []) (sym (no_sections test)) tt)
    sections_changed _ _ (kept {r} {q} {rows} {others} same more) = by_test (test r) refl (sections_changed rows others more)
      where
        by_test : (b : Bool) → test r ≡ b → ArePaired (sections test rows) (sections test others) → ArePaired (sections test (r ∷ rows)) (sections test (q ∷ others))
        by_test true t h =
            subst (λ ss. ArePaired ss (sections test (q ∷ others))) (sym (sections_by test r rows true t))
            (subst (ArePaired (section_before test r rows ∷ sections test rows)) (sym (sections_by test q others true (sym (alike r q same.place same.kind) ∙ t)))
            (same, before_changed rows others more, h))
        by_test false t h =
            subst (λ ss. ArePaired ss (sections test (q ∷ others))) (sym (sections_by test r rows false t))
            (subst (ArePaired (sections test rows)) (sym (sections_by test q others false (sym (alike r q same.place same.kind) ∙ t))) h)
    sections_changed _ _ (replaced old made rows others each each' more) =
        subst (λ ss. ArePaired ss (sections test (made ++ others))) (sym (sections_skip test old rows (all_off old each)))
        (subst (ArePaired (sections test rows)) (sym (sections_skip test made others (all_off made each'))) (sections_changed rows others more))

-- ---- items, instances and pins

connection_is : (p : Place) → is_place InConnection p ≡ true → p ≡ InConnection
connection_is InConnection e = refl
connection_is p e = absurd (cc)

starts_alike : (r q : Row) → r.place ≡ q.place → r.kind ≡ q.kind → stands_in Start r ≡ stands_in Start q
starts_alike r q e f = ap (is_place Start) e

pub starts_off : (r : Row) → InOne r → stands_in Start r ≡ false
starts_off r h = ap (is_place Start) (connection_is r.place h)

names_alike : (place : Place) (r q : Row) → r.place ≡ q.place → r.kind ≡ q.kind → is_name_in place r ≡ is_name_in place q
names_alike place r q e f = λ i. is Identifier (f i) && is_place place (e i)

and_none : (a b : Bool) → b ≡ false → (a && b) ≡ false
and_none true b e = e
and_none false b e = refl

pub names_off : (place : Place) → is_place place InConnection ≡ false → (r : Row) → InOne r → is_name_in place r ≡ false
names_off place e r h = and_none (is_identifier r) (stands_in place r) (ap (is_place place) (connection_is r.place h) ∙ e)

module _ (text new : List ℕ) where
  name_same : (r q : Row) → IsSame text new r q → name_at text r ≡ name_at new q
  name_same r q s = ap name_of s.bytes

  pin_names_same : (ss ts : List Section) → ArePaired text new ss ts
      → map (λ (p : Pin). p.name) (map (pin_of text) ss) ≡ map (λ (p : Pin). p.name) (map (pin_of new) ts)
  unfolding ArePaired
  pin_names_same [] [] h = refl
  pin_names_same [] (t ∷ ts) h = absurd h
  pin_names_same (s ∷ ss) [] h = absurd h
  pin_names_same (s ∷ ss) (t ∷ ts) h =
      let one = name_same s.head t.head h.0 in
      let more = pin_names_same ss ts h.2 in
      λ i. one i ∷ more i

  shapes_same : (cell other : Row) → IsSame text new cell other → (ss ts : List Section) → ArePaired text new ss ts
      → map shape_of (map (instance_of text cell) ss) ≡ map shape_of (map (instance_of new other) ts)
  unfolding ArePaired
  shapes_same cell other e [] [] h = refl
  shapes_same cell other e [] (t ∷ ts) h = absurd h
  shapes_same cell other e (s ∷ ss) [] h = absurd h
  shapes_same cell other e (s ∷ ss) (t ∷ ts) h =
      let name = name_same s.head t.head h.0 in
      let cell_name = name_same cell other e in
      let pins = pin_names_same (pins_in s) (pins_in t)
      (sections_changed text new (is_name_in Pins) (names_alike Pins) (names_off Pins refl) s.body t.body h.1) in
      let more = shapes_same cell other e ss ts h.2 in
      λ i. record { name = name i; cell = cell_name i; pins = pins i } ∷ more i

  -- items of which only connections are replaced have instances of the same shapes
  pub items_same : (ss ts : List Section) → ArePaired text new ss ts
      → map shape_of (flat_map (instances_by text) ss) ≡ map shape_of (flat_map (instances_by new) ts)
  unfolding ArePaired
  items_same [] [] h = refl
  items_same [] (t ∷ ts) h = absurd h
  items_same (s ∷ ss) [] h = absurd h
  items_same (s ∷ ss) (t ∷ ts) h =
      map-append shape_of (instances_by text s) (flat_map (instances_by text) ss)
      ∙ (λ i. shapes_same s.head t.head h.0 (instances_in s) (instances_in t)
      (sections_changed text new (is_name_in Instances) (names_alike Instances) (names_off Instances refl) s.body t.body h.1) i ++ items_same ss ts h.2 i)
      ∙ sym (map-append shape_of (instances_by new t) (flat_map (instances_by new) ts))

  pub rows_same : (rows others : List Row) → AreChanged text new rows others
      → map shape_of (flat_map (instances_by text) (sections (stands_in Start) rows)) ≡ map shape_of (flat_map (instances_by new) (sections (stands_in Start) others))
  rows_same rows others h =
      items_same (sections (stands_in Start) rows) (sections (stands_in Start) others) (sections_changed text new (stands_in Start) starts_alike starts_off rows others h)
