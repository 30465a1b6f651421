-- Loads and delays with widths are bounded by all capacitances together.
use Rattle.std.proofs.Common.{◌≡◌, ℕ, ◌+◌, ◌*◌, ◌<◌, ◌≤◌, arith, Option, Some, None, is_some, cond}
use Rattle.std.specs.List.{sum_by}
use Rattle.elmore.specs.Path.{nodes}
use Rattle.elmore.specs.Cells.{input_capacitance, cell_delay}
use Rattle.elmore.specs.declared.rep.Rep.{Rep}
use Rattle.elmore.proofs.RootLemmas.{IsRooted, root_over}
use Rattle.elmore.proofs.SumLemmas.{sum_of_both, sum_of_same}
use Rattle.elmore.proofs.LoadLemmas.{load_bound}
use Rattle.elmore.proofs.PlacedDelayLemmas.{input_load_bound, delay_bound}
use Rattle.wire_widths.specs.Widths.{wide_load, wide_input_load, wide_delay, with_input, wide_cell, wide_capacitance}
use Rattle.wire_widths.proofs.WideLoadLemmas.{loads_wide, input_loads_wide, cells_wide, delays_wide}

-- all that can be a load: the capacitances, what the wires add, and the inputs of the cells
abbrev pub all_charge : (ℕ → ℕ) → (ℕ → ℕ) → (ℕ → Option Rep) → ℕ → ℕ
all_charge c a cell n = sum_by c (nodes n) + sum_by a (nodes n) + sum_by (λ u. input_capacitance (cell u)) (nodes n)

one : (o : Option Rep) (c a : ℕ) → (c + cond (is_some o) 0 a) + input_capacitance (with_input a o) ≡ (c + a) + input_capacitance o
one None c a = omega arith
one (Some rep) c a = omega arith

all_is : (c a : ℕ → ℕ) (cell : ℕ → Option Rep) (n : ℕ)
    → sum_by (wide_capacitance c a cell) (nodes n) + sum_by (λ u. input_capacitance (wide_cell a cell u)) (nodes n) ≡ all_charge c a cell n
all_is c a cell n =
    omega (
      arith,
      sum_of_both (wide_capacitance c a cell) (λ u. input_capacitance (wide_cell a cell u)) (nodes n),
      sum_of_same (λ u. wide_capacitance c a cell u + input_capacitance (wide_cell a cell u)) (λ u. (c u + a u) + input_capacitance (cell u)) (nodes n)
          (λ u. one (cell u) (c u) (a u)),
      sum_of_both (λ u. c u + a u) (λ u. input_capacitance (cell u)) (nodes n),
      sum_of_both c a (nodes n),
    )

pub wide_load_bound : (parent : ℕ → ℕ) (n : ℕ) → IsRooted parent n → (c a : ℕ → ℕ) (cell : ℕ → Option Rep) (v : ℕ) → v < n
    → wide_load parent c a cell n v ≤ all_charge c a cell n
wide_load_bound parent n t c a cell v v_n =
    omega (arith, loads_wide parent c a cell t.falls n v v_n, load_bound parent (wide_capacitance c a cell) (wide_cell a cell) n v, all_is c a cell n)

pub wide_input_load_bound : (parent : ℕ → ℕ) (n : ℕ) → IsRooted parent n → (c a : ℕ → ℕ) (cell : ℕ → Option Rep) (v : ℕ) → v < n
    → wide_input_load parent c a cell n v + a v ≤ all_charge c a cell n
wide_input_load_bound parent n t c a cell v v_n =
    omega (arith, input_loads_wide parent c a cell t.falls n v v_n, input_load_bound parent (wide_capacitance c a cell) (wide_cell a cell) n v v_n, all_is c a cell n)

-- so delays from the root are bounded by all resistances, and by what each cell may delay
pub wide_delay_bound : (parent : ℕ → ℕ) (n : ℕ) → IsRooted parent n → (r c a : ℕ → ℕ) (cell : ℕ → Option Rep) (most : ℕ) → 0 < n
    → ((u : ℕ) → u < n → cell_delay (cell u) (wide_load parent c a cell n u) ≤ most)
    → (w : ℕ) → w < n → wide_delay parent r a c cell n 0 w ≤ all_charge c a cell n * sum_by r (nodes n) + n * most
wide_delay_bound parent n t r c a cell most some cells w w_n =
    omega (
      arith,
      delays_wide parent r a c cell n t 0 w some (root_over parent n t w w_n),
      delay_bound parent n t r (wide_capacitance c a cell) (wide_cell a cell) (all_charge c a cell n) most
          (λ u u_n. omega (arith, input_load_bound parent (wide_capacitance c a cell) (wide_cell a cell) n u u_n, all_is c a cell n))
          (λ u u_n. omega (arith, cells_wide parent c a cell t.falls n u u_n, cells u u_n)) w w_n,
    )
