-- The repeater of a cell, as the library has it.
use Rattle.std.proofs.Common.{◌≡◌, ◌≢◌, ℕ, zero, suc, true, false, cond, List, [], ◌∷◌, slice_index_or, unwrap_or, refl, sym, ap, ◌∙◌, subst, arith, AllPairs, Contains, is_some, Option, Some, None, inl, inr}
use Rattle.std.specs.List.{find}
use Rattle.std.specs.Str.{bytes_eq}
use Rattle.std.proofs.lemmas.Bool.{cases_Bool, false≢true}
use Rattle.std.proofs.lemmas.List.Elements.{All-contains, Contains-get_or}
use Rattle.std.proofs.lemmas.Slice.Eq.{bytes_eq-Decides}
use Rattle.elmore.specs.Cells.{rep_of}
use Rattle.lib_linear.specs.Libraries.{IsOfCells}
use Rattle.lib_linear.specs.declared.repeater.Repeater.{Repeater}
use Rattle.vg_design.specs.Designs.{Design, Joined}
use Rattle.vg_split.specs.Conditions.{IsNamed}
use Rattle.vg_split.specs.Splits.{NO_REPEATER, Split, is_celled, repeater_at}
use Rattle.retime_laws.specs.NewStages.{IsPut}

-- of repeaters of different cells the one of a cell is found
find_once : (rs : List Repeater) (r : Repeater) → AllPairs (λ a b. a.cell ≢ b.cell) rs → Contains rs r → find (λ (q : Repeater). bytes_eq r.cell q.cell) rs ≡ Some r
find_once [] r once (i, low, is) = absurd (omega (arith, low))
find_once (q ∷ rs) r once (zero, low, is) =
    ap (λ b. cond b (Some q) (find (λ (q : Repeater). bytes_eq r.cell q.cell) rs)) ((bytes_eq-Decides r.cell q.cell).1 (sym (ap (λ (q : Repeater). q.cell) is)))
    ∙ ap Some is
find_once (q ∷ rs) r once (suc i, low, is) =
    ap (λ b. cond b (Some q) (find (λ (q : Repeater). bytes_eq r.cell q.cell) rs)) other
    ∙ find_once rs r (λ j k d j_k k_low. once (suc j) (suc k) d (omega (arith, j_k)) (omega (arith, k_low))) (i, omega (arith, low), is)
  where
    other : bytes_eq r.cell q.cell ≡ false
    other = elim (cases_Bool (bytes_eq r.cell q.cell)) [
      | inl same ↦ absurd (once 0 (suc i) r (omega arith) low (sym ((bytes_eq-Decides r.cell q.cell).0 same) ∙ ap (λ (q : Repeater). q.cell) (sym is)))
      | inr none ↦ none
    ]

module _ (d : Design) (n : Joined) (x : Split) (put : IsPut d n x) where
  pub own_repeater : (w : ℕ) → is_celled x w ≡ true → Contains x.repeaters (repeater_at x w)
  own_repeater w has = by (slice_index_or x.cells w None) refl has
    where
      by : (o : Option ℕ) → slice_index_or x.cells w None ≡ o → is_some (rep_of x.problem.reps o) ≡ true
          → Contains x.repeaters (slice_index_or x.repeaters (unwrap_or o 0) NO_REPEATER)
      by None e none = absurd (false≢true none)
      by (Some b) e some = Contains-get_or x.repeaters b NO_REPEATER (put.split.split.numbered w b e)

  library_repeater : (w : ℕ) → is_celled x w ≡ true → Contains d.library.repeaters (repeater_at x w)
  library_repeater w has = subst (λ (rs : List Repeater). Contains rs (repeater_at x w)) put.split.repeaters (own_repeater w has)

  -- its pins are what the library says of them
  pub of_cells : (w : ℕ) → is_celled x w ≡ true → IsOfCells d.library (repeater_at x w)
  of_cells w has = All-contains (IsOfCells d.library) d.library.repeaters (repeater_at x w) put.library.each (library_repeater w has)

  -- and have names
  pub pins_named : (w : ℕ) → is_celled x w ≡ true → IsNamed (repeater_at x w)
  pins_named w has = All-contains IsNamed x.repeaters (repeater_at x w) put.split.split.repeaters (own_repeater w has)

  -- it is the repeater of its cell
  pub found_repeater : (w : ℕ) → is_celled x w ≡ true → find (λ (q : Repeater). bytes_eq (repeater_at x w).cell q.cell) d.library.repeaters ≡ Some (repeater_at x w)
  found_repeater w has = find_once d.library.repeaters (repeater_at x w) put.library.once (library_repeater w has)
