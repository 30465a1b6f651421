-- The first of some flaws, part by part.
use Rattle.std.proofs.Common.{◌≡◌, ℕ, List, [], ◌∷◌, ◌++◌, fold, map, Option, None, refl, sym, ap, ◌∙◌}
use Rattle.std.proofs.lemmas.List.Sums.{fold-append}
use Rattle.lib_text.specs.Groups.{Group}
use Rattle.name_tables.specs.Distinct.{with_name}
use Rattle.lib_cells.specs.declared.flaw.Flaw.{Flaw}
use Rattle.lib_cells.specs.Cells.{name_of}
use Rattle.lib_cells.specs.Flaws.{twice_flaw, twice_flaws}
use Rattle.lib_cells.specs.FirstFlaws.{earlier, first_of}

pub first_append : (bytes : List ℕ) (first : Option Flaw) (xs ys : List Flaw) → first_of bytes first (xs ++ ys) ≡ first_of bytes (first_of bytes first xs) ys
first_append bytes first xs ys = fold-append (earlier bytes) first xs ys

twice_nil : (names : List (List ℕ)) → twice_flaws names [] ≡ []
unfolding twice_flaws
twice_nil names = refl

pub twice_cons : (names : List (List ℕ)) (cell : Group) (cells : List Group) → twice_flaws names (cell ∷ cells) ≡ twice_flaw names cell ++ twice_flaws (with_name names (name_of cell)) cells
unfolding twice_flaws
twice_cons names cell cells = refl

pub one_twice : (bytes : List ℕ) (first : Option Flaw) (names : List (List ℕ)) (cells : List Group) (cell : Group) (rest : List Group) → cells ≡ cell ∷ rest
    → first_of bytes first (twice_flaws names cells) ≡ first_of bytes (first_of bytes first (twice_flaw names cell)) (twice_flaws (with_name names (name_of cell)) rest)
one_twice bytes first names cells cell rest e =
    ap (λ cs. first_of bytes first (twice_flaws names cs)) e ∙ rw (twice_cons names cell rest) (first_append bytes first (twice_flaw names cell) (twice_flaws (with_name names (name_of cell)) rest))

pub none_twice : (bytes : List ℕ) (first : Option Flaw) (names : List (List ℕ)) (cells : List Group) → cells ≡ [] → first_of bytes first (twice_flaws names cells) ≡ first
none_twice bytes first names cells e = ap (λ cs. first_of bytes first (twice_flaws names cs)) e ∙ rw (twice_nil names) refl

pub one_named : (names : List (List ℕ)) (cells : List Group) (cell : Group) (rest : List Group) → cells ≡ cell ∷ rest
    → fold with_name (with_name names (name_of cell)) (map name_of rest) ≡ fold with_name names (map name_of cells)
one_named names cells cell rest e = sym (ap (λ cs. fold with_name names (map name_of cs)) e)

-- the first of two lists, one after the other
pub both_parts : (bytes : List ℕ) (first result : Option Flaw) (xs ys : List Flaw) → first ≡ first_of bytes None xs → result ≡ first_of bytes first ys
    → result ≡ first_of bytes None (xs ++ ys)
both_parts bytes first result xs ys e f = f ∙ ap (λ o. first_of bytes o ys) e ∙ sym (first_append bytes None xs ys)
