-- Items that are kept by their tokens.
use Rattle.std.proofs.Common.{◌≡◌, ◌<◌, ◌≤◌, ℕ, List, [], ◌∷◌, ◌++◌, length, take, drop, refl, sym, ap, subst, ◌∙◌, arith, length-append}
use Rattle.std.proofs.lemmas.List.{append-nil, append_assoc, take-append-le, drop-append-le, length-take-le}
use Rattle.std.proofs.Math.Seq.{take-length, drop-length}
use Rattle.ver_text.specs.Tokens.{tokens_from}
use Rattle.ver_syntax.specs.declared.row.Row.{Row}
use Rattle.ver_syntax.specs.Rows.{rows_from}
use Rattle.ver_items.specs.Kept.{AreCounts, items_by}
use Rattle.ver_items.specs.Sections.{Section, items, sections}
use Rattle.ver_items.specs.SectionSteps.{section_in}

-- one item more
pub items_more : (ns : List ℕ) (rows more : List Row) → AreCounts ns rows → items_by (ns ++ length more ∷ []) (rows ++ more) ≡ items_by ns rows ++ section_in more
unfolding items_by AreCounts
items_more [] rows more h =
    subst (λ (rs : List Row). items_by (length more ∷ []) (rs ++ more) ≡ section_in more) (sym h)
    (append-nil (section_in (take (length more) more)) ∙ ap section_in (take-length more))
items_more (n ∷ ns) rows more h =
    rw (take-append-le n rows more h.1, drop-append-le n rows more h.1)
    (ap (λ ss. section_in (take n rows) ++ ss) (items_more ns (drop n rows) more h.2)
    ∙ sym (append_assoc (section_in (take n rows)) (items_by ns (drop n rows)) (section_in more)))

pub counts_more : (ns : List ℕ) (rows more : List Row) → AreCounts ns rows → 0 < length more → AreCounts (ns ++ length more ∷ []) (rows ++ more)
unfolding AreCounts
counts_more [] rows more h some =
    subst (λ (rs : List Row). AreCounts (length more ∷ []) (rs ++ more)) (sym h) (some, omega arith, drop-length more)
counts_more (n ∷ ns) rows more h some =
    (h.0, omega (arith, h.1, length-append rows more), subst (AreCounts (ns ++ length more ∷ [])) (sym (drop-append-le n rows more h.1)) (counts_more ns (drop n rows) more h.2 some))

pub nothing_kept : (ns : List ℕ) (rows : List Row) → ns ≡ [] → rows ≡ [] → AreCounts ns rows
unfolding AreCounts
nothing_kept ns rows e f = subst (λ (cs : List ℕ). AreCounts cs rows) (sym e) f

pub no_items_kept : (ns : List ℕ) (rows : List Row) → ns ≡ [] → items_by ns rows ≡ []
unfolding items_by
no_items_kept ns rows e = ap (λ cs. items_by cs rows) e

-- an item is pushed
pub pushed_counts : (ns ms : List ℕ) (rows more all : List Row) → AreCounts ns rows → all ≡ rows ++ more → ms ≡ ns ++ length more ∷ [] → 0 < length more → AreCounts ms all
pushed_counts ns ms rows more all h e f some =
    subst (λ (rs : List Row). AreCounts ms rs) (sym e) (subst (λ (cs : List ℕ). AreCounts cs (rows ++ more)) (sym f) (counts_more ns rows more h some))

pub pushed_items : (ns ms : List ℕ) (rows more all : List Row) (old : List Section) → AreCounts ns rows → items_by ns rows ≡ old → all ≡ rows ++ more → ms ≡ ns ++ length more ∷ []
    → items_by ms all ≡ old ++ section_in more
pushed_items ns ms rows more all old h v e f = rw (e, f) (items_more ns rows more h ∙ ap (λ ss. ss ++ section_in more) v)

-- ---- an item is read

pub first_kept : (counts ns : List ℕ) (n : ℕ) (rows : List Row) → counts ≡ n ∷ ns → AreCounts counts rows → (0 < n) × (n ≤ length rows) × AreCounts ns (drop n rows)
unfolding AreCounts
first_kept counts ns n rows e h = subst (λ (cs : List ℕ). AreCounts cs rows) e h

pub next_kept : (counts ns : List ℕ) (n : ℕ) (rows item left : List Row) (others old : List Section) → counts ≡ n ∷ ns → items_by counts rows ++ others ≡ old
    → item ≡ take n rows → left ≡ drop n rows → old ≡ section_in item ++ (items_by ns left ++ others)
unfolding items_by
next_kept counts ns n rows item left others old e v i l =
    rw (i, l) (sym v ∙ ap (λ cs. items_by cs rows ++ others) e ∙ append_assoc (section_in (take n rows)) (items_by ns (drop n rows)) others)

pub some_kept : (n : ℕ) (rows item : List Row) → item ≡ take n rows → 0 < n → n ≤ length rows → 0 < length item
some_kept n rows item e some within = (let l : length item ≡ n = ap length e ∙ length-take-le n rows within in omega (arith, l, some))

-- the empty text has no items
pub no_items : items [] ≡ []
unfolding tokens_from rows_from sections
no_items = refl

empty : (ns : List ℕ) → length ns ≡ 0 → ns ≡ []
empty [] e = refl
empty (n ∷ ns) e = absurd (omega (arith, e))

none_left : (ns : List ℕ) (rows : List Row) (others : List Section) → length ns ≡ 0 → items_by ns rows ++ others ≡ others
none_left ns rows others e = ap (λ ss. ss ++ others) (no_items_kept ns rows (empty ns e))

-- all that were kept are read
pub others_left : (ns : List ℕ) (rows : List Row) (others old : List Section) → length ns ≡ 0 → items_by ns rows ++ others ≡ old → old ≡ others
others_left ns rows others old e v = sym v ∙ none_left ns rows others e

pub next_left : (ns : List ℕ) (rows item : List Row) (others left old : List Section) → length ns ≡ 0 → items_by ns rows ++ others ≡ old
    → others ≡ section_in item ++ left → old ≡ section_in item ++ (items_by ns rows ++ left)
next_left ns rows item others left old e v n =
    others_left ns rows others old e v ∙ n ∙ ap (λ ss. section_in item ++ ss) (sym (none_left ns rows left e))

-- all items were kept
pub all_kept : (ns counts : List ℕ) (rows tokens : List Row) (others all : List Section) → counts ≡ ns → tokens ≡ rows → items_by ns rows ≡ all → others ≡ items []
    → items_by counts tokens ++ others ≡ all
all_kept ns counts rows tokens others all e f v o =
    rw (e, f, o) (ap (λ ss. items_by ns rows ++ ss) no_items ∙ append-nil (items_by ns rows) ∙ v)
