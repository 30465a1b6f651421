-- The flaws of an instance, one pin more.
use Rattle.std.proofs.Common.{◌≡◌, ℕ, ◌<◌, min, Bool, true, false, List, [], ◌∷◌, ◌++◌, length, map, flat_map, Option, Some, None, refl, sym, ap, ◌∙◌, arith}
use Rattle.std.proofs.lemmas.Int.{clamps}
use Rattle.name_tables.specs.Distinct.{with_name}
use Rattle.ver_syntax.specs.declared.row.Row.{Row}
use Rattle.ver_items.specs.Sections.{Section, is_identifier, name_at, sections}
use Rattle.ver_file.specs.Firsts.{earlier, first_of, named_at}
use Rattle.ver_file.specs.Flaws.{named, repeated, select_flaws}
use Rattle.ver_file.specs.Netlists.{identifiers_in}
use Rattle.ver_file.proofs.FlawLemmas.{first_append, next_section, none_repeated}
use Rattle.ver_file.proofs.ListLemmas.{flat_map-append}

-- ---- the first of some places is the same in each order

earlier_swap : (first : Option ℕ) (a b : ℕ) → earlier (earlier first a) b ≡ earlier (earlier first b) a
earlier_swap None a b = let e : min a b ≡ min b a = omega (arith, clamps) in ap (λ n. Some n) e
earlier_swap (Some x) a b = let e : min (min x a) b ≡ min (min x b) a = omega (arith, clamps) in ap (λ n. Some n) e

first_earlier : (first : Option ℕ) (a : ℕ) (ys : List ℕ) → first_of (earlier first a) ys ≡ earlier (first_of first ys) a
first_earlier first a [] = refl
first_earlier first a (y ∷ ys) = ap (λ o. first_of o ys) (earlier_swap first a y) ∙ first_earlier (earlier first y) a ys

first_swap : (first : Option ℕ) (xs ys : List ℕ) → first_of (first_of first xs) ys ≡ first_of (first_of first ys) xs
first_swap first [] ys = refl
first_swap first (x ∷ xs) ys = first_swap (earlier first x) xs ys ∙ ap (λ o. first_of o xs) (first_earlier first x ys)

-- ---- a pin

-- the flaws of some pins, where these are the names of those before them
abbrev pub flaws_among : List ℕ → List (List ℕ) → List Section → List ℕ
flaws_among text names pins = repeated names (map (named text) pins) ++ flat_map (select_flaws text) (flat_map identifiers_in pins)

-- one pin more
pub next_pin : (text : List ℕ) (first twice found : Option ℕ) (names new : List (List ℕ)) (r : Row) (p : Section) (all rest : List Section) → r ≡ p.head → all ≡ p ∷ rest
    → new ≡ with_name names (name_at text r)
    → twice ≡ first_of first (repeated names (named_at text r ∷ []))
    → found ≡ first_of twice (flat_map (select_flaws text) (identifiers_in p))
    → first_of found (flaws_among text new rest) ≡ first_of first (flaws_among text names all)
next_pin text first twice found names new r p all rest same e put again link =
    let A = repeated names (named_at text p.head ∷ []) in
    let L = flat_map (select_flaws text) (identifiers_in p) in
    let R = repeated (with_name names (name_at text p.head)) (map (named text) rest) in
    let M = flat_map (select_flaws text) (flat_map identifiers_in rest) in
    let now : found ≡ first_of (first_of first A) L = link ∙ ap (λ o. first_of o L) (again ∙ ap (λ q. first_of first (repeated names (named_at text q ∷ []))) same) in
    let names_now : new ≡ with_name names (name_at text p.head) = put ∙ ap (λ q. with_name names (name_at text q)) same in
    let links : flat_map (select_flaws text) (flat_map identifiers_in all) ≡ L ++ M =
    ap (λ ps. flat_map (select_flaws text) (flat_map identifiers_in ps)) e
    ∙ flat_map-append (select_flaws text) (identifiers_in p) (flat_map identifiers_in rest) in
    (λ i. first_of (now i) (flaws_among text (names_now i) rest))
    ∙ first_append (first_of (first_of first A) L) R M
    ∙ ap (λ o. first_of o M) (first_swap (first_of first A) L R)
    ∙ sym (first_append (first_of (first_of first A) R) L M)
    ∙ (λ i. first_of (sym (next_section text first names p all rest e) i) (sym links i))
    ∙ sym (first_append first (repeated names (map (named text) all)) (flat_map (select_flaws text) (flat_map identifiers_in all)))

pub no_pin : (text : List ℕ) (first : Option ℕ) (names : List (List ℕ)) (all : List Section) → all ≡ [] → first_of first (flaws_among text names all) ≡ first
no_pin text first names all e =
    ap (λ ps. first_of first (flaws_among text names ps)) e ∙ ap (λ xs. first_of first (xs ++ [])) (none_repeated names)

-- one token selects nothing of an identifier
pub none_selected : (text : List ℕ) (rows : List Row) → length rows < 2 → flat_map (select_flaws text) (sections is_identifier rows) ≡ []
unfolding sections
none_selected text [] l = refl
none_selected text (r ∷ []) l = by_test (is_identifier r) refl
  where
    by_test : (b : Bool) → is_identifier r ≡ b → flat_map (select_flaws text) (sections is_identifier (r ∷ [])) ≡ []
    by_test true t = rw t refl
    by_test false t = rw t refl
none_selected text (r ∷ q ∷ rows) l = absurd (omega arith)
