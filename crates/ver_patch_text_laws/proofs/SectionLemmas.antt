-- The rows of a pin among those of its text.
use Rattle.std.proofs.Common.{◌≡◌, ℕ, zero, suc, Bool, true, false, List, [], ◌∷◌, ◌++◌, map, Some, refl, sym, ap, ◌∙◌, subst, append_assoc, ◌⊎◌, inl, inr}
use Rattle.std.specs.Prelude.{⊤, slice_get}
use Rattle.std.specs.List.{before_first, flat_map}
use Rattle.std.proofs.lemmas.Option.{none-some, same_Some}
use Rattle.std.proofs.lemmas.Bool.{and_parts}
use Rattle.ver_syntax.specs.declared.row.Place.{Place}
use Rattle.ver_syntax.specs.declared.row.Place.TheVariants.{Start, Instances, Pins, Connection}
use Rattle.ver_syntax.specs.declared.row.Row.{Row}
use Rattle.ver_syntax.specs.Rows.{rows_of}
use Rattle.ver_items.specs.Sections.{Section, instances_in, is_identifier, is_name_in, is_place, items, pins_in, section_before, sections, stands_in}
use Rattle.ver_module.specs.Netlists.{Instance, Pin}
use Rattle.ver_file.specs.Netlists.{instance_of, instances_by, instances_of, pin_of}
use Rattle.ver_patch.proofs.StandLemmas.{before_others, no_sections, sections_by}

-- ---- lists

pub get_map : {X Y : Type 0} (f : X → Y) (xs : List X) (k : ℕ) (y : Y) → slice_get (map f xs) k ≡ Some y → (x : X) × (slice_get xs k ≡ Some x) × (y ≡ f x)
get_map f [] k y e = absurd (none-some y e)
get_map f (x ∷ xs) zero y e = (x, refl, sym (same_Some (f x) y e))
get_map f (x ∷ xs) (suc k) y e = get_map f xs k y e

get_append : {X : Type 0} (xs ys : List X) (k : ℕ) (y : X) → slice_get (xs ++ ys) k ≡ Some y
    → ((j : ℕ) × (slice_get xs j ≡ Some y)) ⊎ ((j : ℕ) × (slice_get ys j ≡ Some y))
get_append [] ys k y e = inr (k, e)
get_append (x ∷ xs) ys zero y e = inl (0, e)
get_append (x ∷ xs) ys (suc k) y e = elim (get_append xs ys k y e) [ inl (j, f) ↦ inl (suc j, f) | inr h ↦ inr h ]

pub get_flat : {X Y : Type 0} (f : X → List Y) (xs : List X) (k : ℕ) (y : Y) → slice_get (flat_map f xs) k ≡ Some y
    → (x : X) × (i : ℕ) × (j : ℕ) × (slice_get xs i ≡ Some x) × (slice_get (f x) j ≡ Some y)
get_flat f [] k y e = absurd (none-some y e)
get_flat f (x ∷ xs) k y e =
    elim (get_append (f x) (flat_map f xs) k y e) [
      | inl (j, h) ↦ (x, 0, j, refl, h)
      | inr (j, h) ↦ (let (z, i, m, g, l) = get_flat f xs j y h in (z, suc i, m, g, l))
    ]

-- ---- sections

-- the first of some tokens, if there is one, passes
abbrev pub Next : (Row → Bool) → List Row → Type 0
Next test [] = ⊤
Next test (r ∷ rows) = test r ≡ true

-- a section among some tokens
pub record Within (begins : Row → Bool) (rows : List Row) (s : Section) : Type 0 where
  pub before : List Row
  pub after : List Row
  pub is : rows ≡ before ++ s.head ∷ (s.body ++ after)
  pub heads : begins s.head ≡ true
  pub next : Next begins after

-- tokens up to one that passes, and the others
pub record SplitsAt (begins : Row → Bool) (rows front : List Row) : Type 0 where
  pub rest : List Row
  pub is : rows ≡ front ++ rest
  pub next : Next begins rest

pub split_first : (begins : Row → Bool) (rows : List Row) → SplitsAt begins rows (before_first begins rows)
split_first begins [] = record { rest = []; is = refl; next = tt }
split_first begins (r ∷ rows) = by_test (begins r) refl (split_first begins rows)
  where
    by_test : (b : Bool) → begins r ≡ b → SplitsAt begins rows (before_first begins rows) → SplitsAt begins (r ∷ rows) (before_first begins (r ∷ rows))
    by_test true t h = record { rest = r ∷ rows; is = ap (λ xs. xs ++ r ∷ rows) (sym (before_others begins r rows true t)); next = t }
    by_test false t h = record {
      rest = h.rest;
      is = ap (λ xs. r ∷ xs) h.is ∙ ap (λ xs. xs ++ h.rest) (sym (before_others begins r rows false t));
      next = h.next;
    }

pub section_at : (begins : Row → Bool) (rows : List Row) (k : ℕ) (s : Section) → slice_get (sections begins rows) k ≡ Some s → Within begins rows s
section_at begins [] k s e = absurd (none-some s (ap (λ xs. slice_get xs k) (sym (no_sections begins)) ∙ e))
section_at begins (r ∷ rows) k s e =
    by_test (begins r) refl (λ j f. section_at begins rows j s f)
  where
    later : Within begins rows s → Within begins (r ∷ rows) s
    later h = record { before = r ∷ h.before; after = h.after; is = ap (λ xs. r ∷ xs) h.is; heads = h.heads; next = h.next }

    here : begins r ≡ true → (j : ℕ) → slice_get (section_before begins r rows ∷ sections begins rows) j ≡ Some s
        → ((i : ℕ) → slice_get (sections begins rows) i ≡ Some s → Within begins rows s) → Within begins (r ∷ rows) s
    here t zero f others =
        let own : section_before begins r rows ≡ s = same_Some (section_before begins r rows) s f in
        let h = split_first begins rows in
        subst (Within begins (r ∷ rows)) own (record { before = []; after = h.rest; is = ap (λ xs. r ∷ xs) h.is; heads = t; next = h.next })
    here t (suc j) f others = later (others j f)

    by_test : (b : Bool) → begins r ≡ b → ((i : ℕ) → slice_get (sections begins rows) i ≡ Some s → Within begins rows s) → Within begins (r ∷ rows) s
    by_test true t others = here t k (ap (λ xs. slice_get xs k) (sym (sections_by begins r rows true t)) ∙ e) others
    by_test false t others = later (others k (ap (λ xs. slice_get xs k) (sym (sections_by begins r rows false t)) ∙ e))

-- ---- pins

-- the first of some tokens, if there is one, stands in no connection
abbrev pub Quits : List Row → Type 0
Quits [] = ⊤
Quits (r ∷ rows) = stands_in Connection r ≡ false

pub quits_append : (xs ys : List Row) → Quits xs → Quits ys → Quits (xs ++ ys)
quits_append [] ys h k = k
quits_append (x ∷ xs) ys h k = h

quits : (test : Row → Bool) → ((r : Row) → test r ≡ true → stands_in Connection r ≡ false) → (rows : List Row) → Next test rows → Quits rows
quits test f [] h = tt
quits test f (r ∷ rows) h = f r h

at_place : (p : Place) → is_place Pins p ≡ true → p ≡ Pins
at_place Pins e = refl
at_place p e = absurd (cc)

at_instances : (p : Place) → is_place Instances p ≡ true → p ≡ Instances
at_instances Instances e = refl
at_instances p e = absurd (cc)

at_start : (p : Place) → is_place Start p ≡ true → p ≡ Start
at_start Start e = refl
at_start p e = absurd (cc)

pub in_pins : (r : Row) → is_name_in Pins r ≡ true → (is_identifier r ≡ true) × (r.place ≡ Pins)
in_pins r e = let (f, g) = and_parts (is_identifier r) (stands_in Pins r) e in (f, at_place r.place g)

no_pin : (r : Row) → is_name_in Pins r ≡ true → stands_in Connection r ≡ false
no_pin r e = ap (is_place Connection) (in_pins r e).1

no_instance : (r : Row) → is_name_in Instances r ≡ true → stands_in Connection r ≡ false
no_instance r e = ap (is_place Connection) (at_instances r.place (and_parts (is_identifier r) (stands_in Instances r) e).1)

no_item : (r : Row) → stands_in Start r ≡ true → stands_in Connection r ≡ false
no_item r e = ap (is_place Connection) (at_start r.place e)

-- the tokens of a pin among all
pub record PinRows (rows : List Row) (p : Section) : Type 0 where
  pub before : List Row
  pub after : List Row
  pub is : rows ≡ before ++ p.head ∷ (p.body ++ after)
  pub named : is_name_in Pins p.head ≡ true
  pub quits : Quits after

nest : (b x a : List Row) (h : Row) (c : List Row) (i : Row) (d e : List Row) → b ++ h ∷ ((c ++ i ∷ (d ++ e)) ++ a) ≡ (b ++ h ∷ c) ++ i ∷ (d ++ (e ++ a))
nest b x a h c i d e = simp append_assoc

pin_rows : (rows : List Row) (item i p : Section) → Within (stands_in Start) rows item → Within (is_name_in Instances) item.body i
    → Within (is_name_in Pins) i.body p → PinRows rows p
pin_rows rows item i p a b c = record {
  before = (a.before ++ item.head ∷ b.before) ++ i.head ∷ c.before;
  after = c.after ++ (b.after ++ a.after);
  is =
      a.is
      ∙ ap (λ xs. a.before ++ item.head ∷ (xs ++ a.after)) b.is
      ∙ nest a.before [] a.after item.head b.before i.head i.body b.after
      ∙ ap (λ xs. (a.before ++ item.head ∷ b.before) ++ i.head ∷ (xs ++ (b.after ++ a.after))) c.is
      ∙ nest (a.before ++ item.head ∷ b.before) [] (b.after ++ a.after) i.head c.before p.head p.body c.after;
  named = c.heads;
  quits =
      quits_append c.after (b.after ++ a.after) (quits (is_name_in Pins) no_pin c.after c.next)
      (quits_append b.after a.after (quits (is_name_in Instances) no_instance b.after b.next) (quits (stands_in Start) no_item a.after a.next));
}

-- the tokens of a pin of a text's netlist
pub record PinFound (text : List ℕ) (pin : Pin) : Type 0 where
  pub section : Section
  pub is : pin ≡ pin_of text section
  pub rows : PinRows (rows_of text) section

pub pin_found : (text : List ℕ) (i j : ℕ) (instance : Instance) (pin : Pin) → slice_get (instances_of text) i ≡ Some instance → slice_get instance.pins j ≡ Some pin
    → PinFound text pin
pin_found text i j instance pin e f =
    let (item, k, l, g, h) = get_flat (instances_by text) (items text) i instance e in
    let (s, m, n) = get_map (instance_of text item.head) (instances_in item) l instance h in
    let (p, o, q) = get_map (pin_of text) (pins_in s) j pin (ap (λ (x : Instance). slice_get x.pins j) (sym n) ∙ f) in
    record {
      section = p;
      is = q;
      rows =
          pin_rows (rows_of text) item s p (section_at (stands_in Start) (rows_of text) k item g)
          (section_at (is_name_in Instances) item.body l s m) (section_at (is_name_in Pins) s.body j p o);
    }
