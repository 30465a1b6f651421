-- The tokens of sections, and those of the items of a text.
use Rattle.std.proofs.Common.{◌≡◌, ◌==◌, ◌<◌, ℕ, suc, Bool, true, false, List, [], ◌∷◌, ◌++◌, arith, length, refl, sym, ap, ◌∙◌, subst, append_assoc}
use Rattle.std.specs.List.{before_first}
use Rattle.std.proofs.lemmas.Bool.Decides.{nat_tests}
use Rattle.std.proofs.lemmas.List.{map-append}
use Rattle.ver_syntax.specs.declared.row.Place.TheVariants.{Start}
use Rattle.ver_syntax.specs.declared.row.Row.{Row}
use Rattle.ver_syntax.specs.Rows.{kinds_in, rows_of}
use Rattle.ver_syntax.specs.Syntax.{AreModule, BeginNoModule}
use Rattle.ver_text.specs.declared.kind.Kind.{Kind}
use Rattle.ver_items.specs.Sections.{Section, is_place, items, sections, stands_in}
use Rattle.ver_items.specs.SectionSteps.{AtStart, rows_in, section_in}
use Rattle.ver_items.proofs.ItemLemmas.{rows_at_start}
use Rattle.ver_items.proofs.SectionLemmas.{before_others, sections_nil, sections_no, sections_yes}

sections_hold : (begins : Row → Bool) (rows : List Row) → before_first begins rows ++ rows_in (sections begins rows) ≡ rows
unfolding sections
sections_hold begins [] = refl
sections_hold begins (r ∷ rows) = by_test (begins r) refl (sections_hold begins rows)
  where
    by_test : (b : Bool) → begins r ≡ b → before_first begins rows ++ rows_in (sections begins rows) ≡ rows
        → before_first begins (r ∷ rows) ++ rows_in (sections begins (r ∷ rows)) ≡ r ∷ rows
    by_test true t rest =
        (λ i. before_others begins r rows true t i ++ rows_in (sections_yes begins (r ∷ rows) r rows refl t i))
        ∙ ap (λ rs. r ∷ rs) rest
    by_test false t rest =
        (λ i. before_others begins r rows false t i ++ rows_in (sections_no begins (r ∷ rows) r rows refl t i))
        ∙ ap (λ rs. r ∷ rs) rest

-- all tokens are in the items, where the first begins one
pub items_have_all : (rows : List Row) → AtStart rows → rows_in (sections (stands_in Start) rows) ≡ rows
items_have_all [] h = ap rows_in (sections_nil (stands_in Start) [] refl)
items_have_all (r ∷ rows) h =
    let t : stands_in Start r ≡ true = ap (is_place Start) h in
    sym (ap (λ rs. rs ++ rows_in (sections (stands_in Start) (r ∷ rows))) (before_others (stands_in Start) r rows true t))
    ∙ sections_hold (stands_in Start) (r ∷ rows)

pub items_hold : (text : List ℕ) → rows_in (items text) ≡ rows_of text
items_hold text = items_have_all (rows_of text) (rows_at_start text)

pub next_rows : (rows : List Row) (all after : List Section) → all ≡ section_in rows ++ after → rows_in all ≡ rows ++ rows_in after
next_rows rows all after e = ap rows_in e ∙ by_rows rows
  where
    by_rows : (rs : List Row) → rows_in (section_in rs ++ after) ≡ rs ++ rows_in after
    by_rows [] = refl
    by_rows (r ∷ rs) = refl

-- ---- kinds

pub kinds_append : (rows more : List Row) → kinds_in (rows ++ more) ≡ kinds_in rows ++ kinds_in more
kinds_append rows more = map-append (λ (r : Row). r.kind) rows more

-- no module has these tokens, with which none begins
pub none_on : (kinds : List Kind) (all item left : List Row) → AtStart all → all ≡ item ++ left → BeginNoModule (kinds ++ kinds_in item)
    → AreModule (kinds ++ kinds_in (rows_in (sections (stands_in Start) all))) → ⊥
none_on kinds all item left start cut none whole =
    let same : kinds ++ kinds_in (rows_in (sections (stands_in Start) all)) ≡ (kinds ++ kinds_in item) ++ kinds_in left =
    ap (λ rows. kinds ++ kinds_in rows) (items_have_all all start ∙ cut)
    ∙ ap (λ ks. kinds ++ ks) (kinds_append item left)
    ∙ sym (append_assoc kinds (kinds_in item) (kinds_in left)) in
    none (kinds_in left) (subst AreModule same whole)

-- ---- none, or some

pub no_rows : (rows : List Row) → (length rows == 0) ≡ true → rows ≡ []
no_rows [] e = refl
no_rows (r ∷ rows) e = absurd (let x : false ≡ true = sym (one_more (length rows)) ∙ e in cc)
  where
    one_more : (n : ℕ) → (suc n == 0) ≡ false
    one_more n = grind (arith, nat_tests)

pub some_rows : (rows : List Row) → (length rows == 0) ≡ false → 0 < length rows
some_rows [] e = absurd (cc)
some_rows (r ∷ rows) e = omega arith
