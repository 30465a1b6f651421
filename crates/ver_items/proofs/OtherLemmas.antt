-- Items that have instances alone.
use Rattle.std.proofs.Common.{◌≡◌, Bool, true, false, ◌||◌, List, [], ◌∷◌, None, drop, filter, find, refl, sym}
use Rattle.std.specs.List.{list_any}
use Rattle.ver_text.specs.declared.kind.Kind.TheVariants.{EndModule}
use Rattle.ver_syntax.specs.declared.row.Place.TheVariants.{Ports, Assignment}
use Rattle.ver_syntax.specs.declared.row.Row.{Row}
use Rattle.ver_syntax.specs.Grammar.{is}
use Rattle.ver_items.specs.Declarations.{begins_declaration}
use Rattle.ver_items.specs.Sections.{is_name_in, sections}
use Rattle.ver_items.specs.Others.{HasOthers, is_of_others}

-- of two tests that both fail
first_fails : (a b : Bool) → (a || b) ≡ false → a ≡ false
first_fails true b e = absurd (cc)
first_fails false b e = refl

second_fails : (a b : Bool) → (a || b) ≡ false → b ≡ false
second_fails true b e = absurd (cc)
second_fails false b e = e

-- tokens of which none is one of others are none of a kind of others
none_of : (p : Row → Bool) → ((r : Row) → is_of_others r ≡ false → p r ≡ false) → (rows : List Row) → list_any is_of_others rows ≡ false → list_any p rows ≡ false
none_of p only [] e = refl
none_of p only (r ∷ rows) e =
    let here : p r ≡ false = only r (first_fails (is_of_others r) (list_any is_of_others rows) e) in
    rw here (none_of p only rows (second_fails (is_of_others r) (list_any is_of_others rows) e))

none_after : (p : Row → Bool) (rows : List Row) → list_any p rows ≡ false → list_any p (drop 1 rows) ≡ false
none_after p [] e = refl
none_after p (r ∷ rows) e = second_fails (p r) (list_any p rows) e

no_sections : (p : Row → Bool) (rows : List Row) → list_any p rows ≡ false → sections p rows ≡ []
unfolding sections
no_sections p [] e = refl
no_sections p (r ∷ rows) e =
    let here : p r ≡ false = first_fails (p r) (list_any p rows) e in
    rw here (no_sections p rows (second_fails (p r) (list_any p rows) e))

none_filtered : (p : Row → Bool) (rows : List Row) → list_any p rows ≡ false → filter p rows ≡ []
none_filtered p [] e = refl
none_filtered p (r ∷ rows) e =
    let here : p r ≡ false = first_fails (p r) (list_any p rows) e in
    rw here (none_filtered p rows (second_fails (p r) (list_any p rows) e))

none_found : (p : Row → Bool) (rows : List Row) → list_any p rows ≡ false → find p rows ≡ None
none_found p [] e = refl
none_found p (r ∷ rows) e =
    let here : p r ≡ false = first_fails (p r) (list_any p rows) e in
    rw here (none_found p rows (second_fails (p r) (list_any p rows) e))

-- a token of none of the others
module _ (r : Row) (e : is_of_others r ≡ false) where
  past_first : (is EndModule r.kind || (is_name_in Ports r || is_name_in Assignment r)) ≡ false
  past_first = second_fails (begins_declaration r) (is EndModule r.kind || (is_name_in Ports r || is_name_in Assignment r)) e

  past_end : (is_name_in Ports r || is_name_in Assignment r) ≡ false
  past_end = second_fails (is EndModule r.kind) (is_name_in Ports r || is_name_in Assignment r) past_first

  begins_none : begins_declaration r ≡ false
  begins_none = first_fails (begins_declaration r) (is EndModule r.kind || (is_name_in Ports r || is_name_in Assignment r)) e

  ends_none : is EndModule r.kind ≡ false
  ends_none = first_fails (is EndModule r.kind) (is_name_in Ports r || is_name_in Assignment r) past_first

  no_port : is_name_in Ports r ≡ false
  no_port = first_fails (is_name_in Ports r) (is_name_in Assignment r) past_end

  not_assigned : is_name_in Assignment r ≡ false
  not_assigned = second_fails (is_name_in Ports r) (is_name_in Assignment r) past_end

-- an item that has instances alone has no others
pub alone : (rows : List Row) → list_any is_of_others rows ≡ false → HasOthers rows []
unfolding sections
alone rows e = record {
  declarations = sym (no_sections begins_declaration rows (none_of begins_declaration begins_none rows e));
  ports = sym (none_filtered (is_name_in Ports) (drop 1 rows) (none_after (is_name_in Ports) rows (none_of (is_name_in Ports) no_port rows e)));
  assigned = sym (no_sections (is_name_in Assignment) (drop 1 rows) (none_after (is_name_in Assignment) rows (none_of (is_name_in Assignment) not_assigned rows e)));
  end = sym (none_found (λ r. is EndModule r.kind) rows (none_of (λ r. is EndModule r.kind) ends_none rows e));
}
