-- The one section that an item is.
use Rattle.std.proofs.Common.{◌≡◌, ◌<◌, ◌+◌, ℕ, Bool, true, nat_lt, arith, length, List, [], ◌∷◌, ◌++◌, Option, None, Some, IfSome, flat_map, refl, sym, ap, ◌∙◌, append_assoc}
use Rattle.std.proofs.lemmas.List.{append-nil}
use Rattle.ver_syntax.specs.declared.row.Row.{Row}
use Rattle.ver_items.specs.Declarations.{declared_by}
use Rattle.ver_file.specs.Firsts.{declared_among}
use Rattle.ver_items.specs.Sections.{Section, sections}
use Rattle.ver_items.specs.SectionSteps.{section_in}
use Rattle.ver_file.proofs.ListLemmas.{flat_map-append}

-- what an item declares is declared among its tokens
pub declared_item : (text : List ℕ) (rows : List Row) → flat_map (declared_by text) (section_in rows) ≡ declared_among text rows
unfolding sections
declared_item text [] = refl
declared_item text (r ∷ rows) = append-nil (declared_among text (r ∷ rows))

-- one item more
pub item_more : {X : Type 0} (f : Section → List X) (done all : List X) (left after : List Section) (rows : List Row) → all ≡ done ++ flat_map f left
    → left ≡ section_in rows ++ after → all ≡ (done ++ flat_map f (section_in rows)) ++ flat_map f after
item_more f done all left after rows e g =
    e ∙ ap (λ s. done ++ flat_map f s) g ∙ ap (λ xs. done ++ xs) (flat_map-append f (section_in rows) after)
    ∙ sym (append_assoc done (flat_map f (section_in rows)) (flat_map f after))

pub items_done : {X : Type 0} (f : Section → List X) (done all : List X) (left : List Section) → all ≡ done ++ flat_map f left → left ≡ [] → done ≡ all
items_done f done all left e g = sym (e ∙ ap (λ s. done ++ flat_map f s) g ∙ append-nil done)

-- an item less
pub items_less : (rows : List Row) (left after : List Section) → left ≡ section_in rows ++ after → 0 < length rows → length after < length left
items_less [] left after e some = absurd (omega (arith, some))
items_less (r ∷ rows) left after e some = let l : length left ≡ 1 + length after = ap length e ∙ omega arith in omega (arith, l)

pub items_fewer : (rows : List Row) (left after : List Section) (more : Bool) → left ≡ section_in rows ++ after → more ≡ nat_lt 0 (length rows) → more ≡ true
    → length after < length left
items_fewer [] left after more e f t = absurd (cc)
items_fewer (r ∷ rows) left after more e f t = items_less (r ∷ rows) left after e (omega arith)

-- ---- items that are kept, if they are

pub kept_begun : (kept : Option (List Section)) (all left : List Section) → IfSome kept (λ k. k ≡ []) → left ≡ all → IfSome kept (λ k. all ≡ k ++ left)
kept_begun None all left e f = tt
kept_begun (Some k) all left e f = sym f ∙ ap (λ ks. ks ++ left) (sym e)

pub kept_next : (kept : Option (List Section)) (all left after : List Section) → IfSome kept (λ k. all ≡ k ++ left) → left ≡ after → IfSome kept (λ k. all ≡ k ++ after)
kept_next None all left after e f = tt
kept_next (Some k) all left after e f = e ∙ ap (λ ss. k ++ ss) f
