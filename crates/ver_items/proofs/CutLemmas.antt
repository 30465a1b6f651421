-- The items of a text, one cut off after another.
use Rattle.std.proofs.Common.{◌≡◌, ℕ, suc, arith, ◌+◌, ◌==◌, Bool, true, false, not, List, [], ◌∷◌, ◌++◌, length, take, refl, sym, ap, subst, ◌∙◌, inl, inr}
use Rattle.std.proofs.lemmas.Bool.Decides.{nat_tests}
use Rattle.std.specs.List.{before_first, position_or_len}
use Rattle.ver_text.specs.declared.kind.Kind.{Kind}
use Rattle.ver_text.specs.declared.kind.Kind.TheVariants.{Semicolon, Module}
use Rattle.ver_syntax.specs.Grammar.{is}
use Rattle.ver_syntax.specs.declared.row.Place.{Place}
use Rattle.ver_syntax.specs.declared.row.Place.TheVariants.{Start, Head, Ports, Declaration, Assignment, Instances, Pins, Connection}
use Rattle.ver_syntax.specs.declared.row.Row.{Row}
use Rattle.ver_syntax.specs.Rows.{place_after}
use Rattle.ver_items.specs.Sections.{is_place, sections, stands_in}
use Rattle.ver_items.specs.SectionSteps.{AreLinked, AtStart, IsItem, section_in}
use Rattle.ver_items.proofs.SectionLemmas.{sections_no, sections_yes}

-- an item begins after a `;` alone
not_start : (p : Place) (k : Kind) → is Semicolon k ≡ false → is_place Start (place_after p k) ≡ false
not_start Start Semicolon e = absurd (cc)
not_start Start Module e = refl
not_start Start k e = refl
not_start Head Semicolon e = absurd (cc)
not_start Head k e = refl
not_start Ports Semicolon e = absurd (cc)
not_start Ports k e = refl
not_start Declaration Semicolon e = absurd (cc)
not_start Declaration k e = refl
not_start Assignment Semicolon e = absurd (cc)
not_start Assignment k e = refl
not_start Instances Semicolon e = absurd (cc)
not_start Instances k e = refl
not_start Pins Semicolon e = absurd (cc)
not_start Pins k e = refl
not_start Connection Semicolon e = absurd (cc)
not_start Connection k e = refl

semicolon : (p : Place) → place_after p Semicolon ≡ Start
semicolon Start = refl
semicolon Head = refl
semicolon p = refl

at_start : (p : Place) (k : Kind) → is Semicolon k ≡ true → place_after p k ≡ Start
at_start p Semicolon e = semicolon p
at_start p k e = absurd (cc)

first_no : (p : Row → Bool) (r : Row) (rows : List Row) → p r ≡ false → before_first p (r ∷ rows) ≡ r ∷ before_first p rows
first_no p r rows e = let s : 1 + position_or_len p rows ≡ suc (position_or_len p rows) = omega arith in rw e (ap (λ k. take k (r ∷ rows)) s)

first_yes : (p : Row → Bool) (r : Row) (rows : List Row) → p r ≡ true → before_first p (r ∷ rows) ≡ []
first_yes p r rows e = rw e refl

-- what follows the first token of an item, and what follows the item
record Cut (rows after : List Row) : Type 0 where
  body : before_first (stands_in Start) (rows ++ after) ≡ rows
  others : sections (stands_in Start) (rows ++ after) ≡ sections (stands_in Start) after
  linked : AreLinked after
  start : AtStart after

at_item : (after : List Row) → AtStart after → before_first (stands_in Start) after ≡ []
at_item [] s = refl
at_item (r ∷ rows) s = first_yes (stands_in Start) r rows (ap (is_place Start) s)

linked_tail : (r : Row) (rows : List Row) → AreLinked (r ∷ rows) → AreLinked rows
unfolding AreLinked
linked_tail r [] l = tt
linked_tail r (q ∷ rows) l = l.1

starts_after : (r : Row) (after : List Row) → AreLinked (r ∷ after) → is Semicolon r.kind ≡ true → AtStart after
unfolding AreLinked
starts_after r [] l e = tt
starts_after r (q ∷ after) l e = l.0 ∙ at_start r.place r.kind e

cut_end : (after : List Row) → AreLinked after → AtStart after → Cut [] after
cut_end after l s = record { body = at_item after s; others = refl; linked = l; start = s }

cut_nil : (r : Row) (after : List Row) → AreLinked (r ∷ after) → IsItem (r ∷ []) after → Cut [] after
unfolding IsItem AreLinked
cut_nil r after l (inl e) = cut_end after (linked_tail r after l) (starts_after r after l e)
cut_nil r [] l (inr e) = cut_end [] tt tt
cut_nil r (q ∷ after) l (inr e) = absurd (cc)

next_place : (r q : Row) (rows : List Row) → AreLinked (r ∷ q ∷ rows) → q.place ≡ place_after r.place r.kind
unfolding AreLinked
next_place r q rows l = l.0

item_tail : (r q : Row) (rows after : List Row) → IsItem (r ∷ q ∷ rows) after → (is Semicolon r.kind ≡ false) × IsItem (q ∷ rows) after
unfolding IsItem
item_tail r q rows after i = i

cut_all : (r : Row) (rows after : List Row) → AreLinked (r ∷ rows ++ after) → IsItem (r ∷ rows) after → Cut rows after
cut_all r [] after l i = cut_nil r after l i
cut_all r (q ∷ rows) after l i =
    let (e, j) = item_tail r q rows after i in
    let c = cut_all q rows after (linked_tail r (q ∷ rows ++ after) l) j in
    let n : stands_in Start q ≡ false = ap (is_place Start) (next_place r q (rows ++ after) l) ∙ not_start r.place r.kind e in
    record {
      body = first_no (stands_in Start) q (rows ++ after) n ∙ ap (λ rs. q ∷ rs) c.body;
      others = sections_no (stands_in Start) (q ∷ rows ++ after) q (rows ++ after) refl n ∙ c.others;
      linked = c.linked;
      start = c.start;
    }

-- the first item of some tokens, and what is left
pub record IsCut (before item after : List Row) : Type 0 where
  pub sections : sections (stands_in Start) before ≡ section_in item ++ sections (stands_in Start) after
  pub linked : AreLinked after
  pub start : AtStart after

empty_item : (after : List Row) → IsItem [] after → IsCut after [] after
unfolding IsItem AreLinked
empty_item [] i = record { sections = refl; linked = tt; start = tt }
empty_item (r ∷ after) i = absurd (cc)

pub item_cut : (before item after : List Row) → before ≡ item ++ after → IsItem item after → AreLinked before → AtStart before → IsCut before item after
item_cut before [] after e i l s = subst (λ rows. IsCut rows [] after) (sym e) (empty_item after i)
item_cut before (r ∷ rows) after e i l s =
    let c = cut_all r rows after (subst AreLinked e l) i in
    let t : r.place ≡ Start = subst AtStart e s in
    record {
      sections =
          sections_yes (stands_in Start) before r (rows ++ after) e (ap (is_place Start) t)
          ∙ (λ i. record { head = r; body = c.body i } ∷ c.others i);
      linked = c.linked;
      start = c.start;
    }

pub no_item : (before after : List Row) → before ≡ [] ++ after → IsItem [] after → sections (stands_in Start) before ≡ []
unfolding IsItem sections
no_item before after e i = ap (sections (stands_in Start)) (e ∙ i)

pub nothing_left : (before item after : List Row) → before ≡ item ++ after → IsItem item after → not (length item == 0) ≡ false → sections (stands_in Start) before ≡ []
nothing_left before [] after e i t = no_item before after e i
nothing_left before (r ∷ rows) after e i t = let v : not false ≡ false = rw (one_more (length rows)) at t in absurd (cc)
  where
    one_more : (n : ℕ) → (suc n == 0) ≡ false
    one_more n = grind (arith, nat_tests)
