-- Names of cells that are new.
use Rattle.std.proofs.Common.{◌≡◌, ℕ, suc, ◌+◌, ◌≤◌, nat_lt, Bool, true, false, cond, ◌||◌, is_none, fold, map, List, [], ◌∷◌, ◌++◌, length, Some, None, refl, sym, ap, ◌∙◌, append_assoc, arith}
use Rattle.std.specs.List.{list_any, position_or_len}
use Rattle.std.specs.Str.{bytes_eq}
use Rattle.std.proofs.lemmas.Bool.Decides.{nat_tests}
use Rattle.std.proofs.lemmas.List.{append-nil}
use Rattle.name_tables.specs.Distinct.{number_of as place_of, with_name}
use Rattle.lib_text.specs.Groups.{Group}
use Rattle.lib_text.specs.declared.statement.Statement.{Statement}
use Rattle.lib_cells.specs.declared.fault.LibKind.{LibKind}
use Rattle.lib_cells.specs.declared.fault.LibKind.TheVariants.{CellTwice}
use Rattle.lib_cells.specs.declared.flaw.Flaw.{Flaw}
use Rattle.lib_cells.specs.Cells.{name_of}
use Rattle.lib_cells.specs.Flaws.{twice_flaws, unless}

pub no_flaw : (test : Bool) (kind : LibKind) (s : Statement) (flaws : List Flaw) → unless test kind s ++ flaws ≡ [] → (test ≡ true) × (flaws ≡ [])
no_flaw true kind s flaws e = (refl, e)
no_flaw false kind s flaws e = absurd (cc)

-- a name that has no place is none of the names
past : (n m : ℕ) → is_none (cond (nat_lt n m) (Some n) None) ≡ true → m ≤ n
past n m e = by_test (nat_lt n m) refl
  where
    by_test : (b : Bool) → nat_lt n m ≡ b → m ≤ n
    by_test true f = let g : is_none (cond true (Some n) None) ≡ true = rw f at e in absurd (cc)
    by_test false f = grind (arith, nat_tests, f)

none_from : (p : List ℕ → Bool) (ns : List (List ℕ)) → length ns ≤ position_or_len p ns → list_any p ns ≡ false
none_from p [] h = refl
none_from p (n ∷ ns) h = by_test (none_from p ns) (p n) refl
  where
    by_test : (length ns ≤ position_or_len p ns → list_any p ns ≡ false) → (b : Bool) → p n ≡ b → (p n || list_any p ns) ≡ false
    by_test others true f = let g : suc (length ns) ≤ 0 = rw f at h in absurd (omega (arith, g))
    by_test others false f =
        let g : suc (length ns) ≤ 1 + position_or_len p ns = rw f at h in
        rw f (others (omega (arith, g)))

pub no_part : {X : Type 0} (xs ys : List X) → xs ++ ys ≡ [] → xs ≡ []
no_part [] ys e = refl
no_part (x ∷ xs) ys e = absurd (cc)

-- a name that has no place is none of the names
pub is_new : (seen : List (List ℕ)) (name : List ℕ) → is_none (place_of seen name) ≡ true → list_any (bytes_eq name) seen ≡ false
is_new seen name e = none_from (bytes_eq name) seen (past (position_or_len (bytes_eq name) seen) (length seen) e)

-- where no cell is given twice, the names are those of the cells, one after another
pub all_new : (seen : List (List ℕ)) (cells : List Group) → twice_flaws seen cells ≡ [] → fold with_name seen (map name_of cells) ≡ seen ++ map name_of cells
unfolding twice_flaws
all_new seen [] e = sym (append-nil seen)
all_new seen (cell ∷ cells) e =
    let (test, rest) = no_flaw (is_none (place_of seen (name_of cell))) CellTwice cell.head (twice_flaws (with_name seen (name_of cell)) cells) e in
    let unseen : list_any (bytes_eq (name_of cell)) seen ≡ false = is_new seen (name_of cell) test in
    let h = all_new (seen ++ name_of cell ∷ []) cells (rw unseen at rest) in
    let w : with_name seen (name_of cell) ≡ seen ++ name_of cell ∷ [] = rw unseen refl in
    ap (λ names. fold with_name names (map name_of cells)) w ∙ h ∙ append_assoc seen (name_of cell ∷ []) (map name_of cells)
