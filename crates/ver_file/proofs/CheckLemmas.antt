-- The flaws of one item more.
use Rattle.std.proofs.Common.{◌≡◌, ℕ, List, [], ◌++◌, map, flat_map, fold, Option, sym, ap, ◌∙◌}
use Rattle.name_tables.specs.Distinct.{with_name}
use Rattle.ver_syntax.specs.declared.row.Row.{Row}
use Rattle.ver_file.specs.Firsts.{first_of, named_by}
use Rattle.ver_file.specs.Flaws.{named, repeated}
use Rattle.ver_items.specs.Sections.{Section, instances_in}
use Rattle.ver_items.specs.SectionSteps.{section_in}
use Rattle.ver_file.proofs.FlawLemmas.{first_append, none_repeated}
use Rattle.ver_file.proofs.FirstLemmas.{next_names, twice_adds}
use Rattle.ver_file.proofs.ListLemmas.{flat_map-append}

-- flaws that are found item by item
pub items_more : (g : Section → List ℕ) (first found : Option ℕ) (left after : List Section) (rows its : List Row) → left ≡ section_in rows ++ after → its ≡ rows
    → found ≡ first_of first (flat_map g (section_in its)) → first_of found (flat_map g after) ≡ first_of first (flat_map g left)
items_more g first found left after rows its e f h =
    ap (λ x. first_of x (flat_map g after)) (h ∙ ap (λ rs. first_of first (flat_map g (section_in rs))) f)
    ∙ sym (first_append first (flat_map g (section_in rows)) (flat_map g after))
    ∙ ap (first_of first) (sym (flat_map-append g (section_in rows) after))
    ∙ ap (λ ss. first_of first (flat_map g ss)) (sym e)

pub nested_more : {X : Type 0} (g : X → List ℕ) (f : Section → List X) (first found : Option ℕ) (left after : List Section) (rows its : List Row)
    → left ≡ section_in rows ++ after → its ≡ rows → found ≡ first_of first (flat_map g (flat_map f (section_in its)))
    → first_of found (flat_map g (flat_map f after)) ≡ first_of first (flat_map g (flat_map f left))
nested_more g f first found left after rows its e k h =
    ap (λ x. first_of x (flat_map g (flat_map f after))) (h ∙ ap (λ rs. first_of first (flat_map g (flat_map f (section_in rs)))) k)
    ∙ sym (first_append first (flat_map g (flat_map f (section_in rows))) (flat_map g (flat_map f after)))
    ∙ ap (first_of first) (sym (twice_adds g f (section_in rows) after))
    ∙ ap (λ ss. first_of first (flat_map g (flat_map f ss))) (sym e)

pub names_more : (text : List ℕ) (first found : Option ℕ) (names new : List (List ℕ)) (left after : List Section) (rows its : List Row)
    → left ≡ section_in rows ++ after → its ≡ rows
    → found ≡ first_of first (repeated names (map (named text) (flat_map instances_in (section_in its))))
    → new ≡ fold with_name names (map (named_by text) (flat_map instances_in (section_in its)))
    → first_of found (repeated new (map (named text) (flat_map instances_in after))) ≡ first_of first (repeated names (map (named text) (flat_map instances_in left)))
names_more text first found names new left after rows its e k h n =
    (λ i. first_of (h i) (repeated (n i) (map (named text) (flat_map instances_in after))))
    ∙ ap (λ rs. first_of (first_of first (repeated names (map (named text) (flat_map instances_in (section_in rs))))) (repeated (fold with_name names (map (named_by text) (flat_map instances_in (section_in rs)))) (map (named text) (flat_map instances_in after)))) k
    ∙ sym (next_names text first names (flat_map instances_in (section_in rows)) (flat_map instances_in after))
    ∙ ap (λ ss. first_of first (repeated names (map (named text) ss))) (sym (flat_map-append instances_in (section_in rows) after))
    ∙ ap (λ ss. first_of first (repeated names (map (named text) (flat_map instances_in ss)))) (sym e)

pub flaws_done : (g : Section → List ℕ) (first : Option ℕ) (left : List Section) → left ≡ [] → first_of first (flat_map g left) ≡ first
flaws_done g first left e = ap (λ ss. first_of first (flat_map g ss)) e

pub nested_done : {X : Type 0} (g : X → List ℕ) (f : Section → List X) (first : Option ℕ) (left : List Section) → left ≡ []
    → first_of first (flat_map g (flat_map f left)) ≡ first
nested_done g f first left e = ap (λ ss. first_of first (flat_map g (flat_map f ss))) e

pub names_done : (text : List ℕ) (first : Option ℕ) (names : List (List ℕ)) (left : List Section) → left ≡ []
    → first_of first (repeated names (map (named text) (flat_map instances_in left))) ≡ first
names_done text first names left e =
    ap (λ ss. first_of first (repeated names (map (named text) (flat_map instances_in ss)))) e ∙ ap (first_of first) (none_repeated names)
