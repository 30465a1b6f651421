-- Notes with a cell behind them.
use Rattle.std.proofs.Common.{◌≡◌, ℕ, suc, inl, inr, true, false, cond, eqb, ◌==◌, List, [], ◌∷◌, ◌++◌, length, refl, sym, ap, ◌∙◌, arith, subst, append_assoc, codes}
use Rattle.std.proofs.lemmas.Bool.{cases_Bool}
use Rattle.std.proofs.lemmas.Bool.Decides.{nat_tests}
use Rattle.vg_scan.specs.declared.chars.Chars.{Chars}
use Rattle.vg_scan.specs.Printed.{is_own, printed_byte, printed}
use Rattle.vg_scan.specs.Separators.{is_bus_pair}
use Rattle.spef_write.specs.Texts.{IsQuietLine}
use Rattle.spef_patch_laws.specs.NoteLaws.{NotesWithCellsAreQuiet}
use Rattle.spef_patch_laws.proofs.CalmLemmas.{calm, IsBare, IsCalm, calm_nothing, calm_bare, calm_hidden, calm_more, calm_line_stays, quiet_line_calm}

own_bare : (b : ℕ) → is_own b ≡ true → IsBare b
own_bare b e = record { escape = λ f. grind (arith, nat_tests); quote = λ f. grind (arith, nat_tests); slash = λ f. grind (arith, nat_tests); newline = λ f. grind (arith, nat_tests) }

left_bare : (l r : ℕ) → is_bus_pair l r ≡ true → IsBare l
left_bare l r e = record { escape = λ f. grind (arith, nat_tests); quote = λ f. grind (arith, nat_tests); slash = λ f. grind (arith, nat_tests); newline = λ f. grind (arith, nat_tests) }

right_bare : (l r : ℕ) → is_bus_pair l r ≡ true → IsBare r
right_bare l r e = record { escape = λ f. grind (arith, nat_tests); quote = λ f. grind (arith, nat_tests); slash = λ f. grind (arith, nat_tests); newline = λ f. grind (arith, nat_tests) }

byte_calm : (chars : Chars) (b : ℕ) (more : List ℕ) → IsCalm more → IsCalm (printed_byte chars b ++ more)
byte_calm chars b more calm_rest =
    elim (cases_Bool (is_own b)) as (λ _. IsCalm (printed_byte chars b ++ more)) [
      | inl own ↦ rw own (calm_bare b more (own_bare b own) calm_rest)
      | inr other ↦ elim (cases_Bool (b == 91)) as (λ _. IsCalm (printed_byte chars b ++ more)) [
        | inl left ↦ rw (other, left) (calm_bare chars.bus_left more (left_bare chars.bus_left chars.bus_right chars.encloses) calm_rest)
        | inr no_left ↦ elim (cases_Bool (b == 93)) as (λ _. IsCalm (printed_byte chars b ++ more)) [
          | inl right ↦ rw (other, no_left, right) (calm_bare chars.bus_right more (right_bare chars.bus_left chars.bus_right chars.encloses) calm_rest)
          | inr no_right ↦ rw (other, no_left, no_right) (calm_hidden b more calm_rest)
        ]
      ]
    ]

name_calm : (chars : Chars) (name : List ℕ) → IsCalm (printed chars name)
name_calm chars [] = calm_nothing
name_calm chars (b ∷ name) = byte_calm chars b (printed chars name) (name_calm chars name)

-- `*D` and a cell
cell_calm : (chars : Chars) (cell : List ℕ) → IsCalm (codes "*D " ++ printed chars cell)
cell_calm chars cell =
    calm_bare 42 _ (record { escape = λ e. omega (arith, e); quote = λ e. omega (arith, e); slash = λ e. omega (arith, e); newline = λ e. omega (arith, e) })
    (calm_bare 68 _ (own_bare 68 refl)
    (calm_bare 32 _ (record { escape = λ e. omega (arith, e); quote = λ e. omega (arith, e); slash = λ e. omega (arith, e); newline = λ e. omega (arith, e) })
    (name_calm chars cell)))

some_bytes : (n : ℕ) → eqb (suc n) 0 ≡ false
some_bytes n = grind (arith, nat_tests)

pub with_cells : NotesWithCellsAreQuiet
with_cells chars [] cell q = calm_line_stays (codes "*D " ++ printed chars cell) (cell_calm chars cell false)
with_cells chars (b ∷ note) cell q =
    let front = (b ∷ note) ++ codes " " in
    let name = printed chars cell in
    let tail = codes "*D " ++ name in
    let whole : (front ++ codes "*D ") ++ name ≡ (b ∷ note) ++ 32 ∷ tail = append_assoc front (codes "*D ") name ∙ append_assoc (b ∷ note) (codes " ") tail in
    subst IsQuietLine (ap (λ t. (cond t [] front ++ codes "*D ") ++ name) (sym (some_bytes (length note))))
    (calm_line_stays ((front ++ codes "*D ") ++ name) (ap (calm false) whole ∙ calm_more false (b ∷ note) tail (quiet_line_calm (b ∷ note) q) (cell_calm chars cell)))
