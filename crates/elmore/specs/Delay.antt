-- Delay and polarity along a path with cells.
use Rattle.std.specs.Prelude.{ℕ, ◌+◌, ◌*◌, ◌%◌, Bool, [], ◌∷◌, ◌++◌, ◌==◌, Option}
use Rattle.std.specs.List.{sum_by, count_by}
use Rattle.elmore.specs.Path.{way}
use Rattle.elmore.specs.Cells.{cell_delay, is_inverter}
use Rattle.elmore.specs.Stage.{load, input_load}
use Rattle.elmore.specs.declared.rep.Rep.{Rep}

-- the Elmore delay from v to w: each wire after v times what it charges, and the cells from v on, v's own included
unfoldable pub delay_from : (ℕ → ℕ) → (ℕ → ℕ) → (ℕ → ℕ) → (ℕ → Option Rep) → ℕ → ℕ → ℕ → ℕ
delay_from parent r c cell n v w =
    sum_by (λ u. r u * input_load parent c cell n u) (way parent v w)
    + sum_by (λ u. cell_delay (cell u) (load parent c cell n u)) (way parent v w ++ v ∷ [])

-- how many inverters a signal passes from v, v's own included, to w
unfoldable pub inverters_from : (ℕ → ℕ) → (ℕ → Option Rep) → ℕ → ℕ → ℕ
inverters_from parent cell v w = count_by (λ u. is_inverter (cell u)) (way parent v w ++ v ∷ [])

abbrev pub is_odd : ℕ → Bool
is_odd k = k % 2 == 1
