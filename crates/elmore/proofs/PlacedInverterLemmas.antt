-- Inverters on a path, by its lowest step.
use Rattle.std.proofs.Common.{◌≡◌, ℕ, ◌+◌, ◌≢◌, ap, ◌∙◌, cond, arith, Option, Bool, true, false, not, ◌%◌, refl, inl, inr}
use Rattle.std.proofs.lemmas.Bool.{cases_eq, eq-eqb, ne_eqb}
use Rattle.std.proofs.lemmas.List.Sums.{sum_by_push}
use Rattle.std.specs.Bool.{beq}
use Rattle.std.specs.List.{sum_by}
use Rattle.elmore.specs.Path.{Falls, is_over, way}
use Rattle.elmore.specs.Cells.{is_inverter}
use Rattle.elmore.specs.Delay.{inverters_from, is_odd}
use Rattle.elmore.specs.declared.rep.Rep.{Rep}
use Rattle.elmore.proofs.WayLemmas.{way_sum_self, way_sum_below, way_sum_through}

-- what a node adds to them
abbrev pub step_inverters : (ℕ → Option Rep) → ℕ → ℕ
step_inverters cell u = cond (is_inverter (cell u)) 1 0

pub inverters_parts : (parent : ℕ → ℕ) (cell : ℕ → Option Rep) (v w : ℕ)
    → inverters_from parent cell v w ≡ sum_by (step_inverters cell) (way parent v w) + step_inverters cell v
unfolding inverters_from
inverters_parts parent cell v w = sum_by_push (step_inverters cell) (way parent v w) v

pub inverters_self : (parent : ℕ → ℕ) → Falls parent → (cell : ℕ → Option Rep) (v : ℕ) → inverters_from parent cell v v ≡ step_inverters cell v
inverters_self parent falls cell v =
    omega (arith, inverters_parts parent cell v v, way_sum_self parent falls (step_inverters cell) v)

pub inverters_below : (parent : ℕ → ℕ) → Falls parent → (cell : ℕ → Option Rep) (v w : ℕ) → parent w ≢ w → w ≢ v
    → inverters_from parent cell v w ≡ inverters_from parent cell v (parent w) + step_inverters cell w
inverters_below parent falls cell v w below other =
    omega (
      arith,
      inverters_parts parent cell v w,
      inverters_parts parent cell v (parent w),
      way_sum_below parent falls (step_inverters cell) v w below other,
    )

-- by way of a node between, whose own cell counts once
pub inverters_through : (parent : ℕ → ℕ) → Falls parent → (cell : ℕ → Option Rep) (v u w : ℕ) → is_over parent v u ≡ true → is_over parent u w ≡ true
    → inverters_from parent cell v w + step_inverters cell u ≡ inverters_from parent cell v u + inverters_from parent cell u w
inverters_through parent falls cell v u w v_u u_w =
    omega (
      arith,
      inverters_parts parent cell v w,
      inverters_parts parent cell v u,
      inverters_parts parent cell u w,
      way_sum_through parent falls (step_inverters cell) v u w v_u u_w,
    )

-- one more cell turns the polarity where it inverts
pub odd_step : (k : ℕ) (b : Bool) → not (beq (is_odd k) b) ≡ is_odd (k + cond b 1 0)
odd_step k false = same (is_odd k) ∙ ap is_odd (omega arith)
  where
    same : (x : Bool) → not (beq x false) ≡ x
    same true = refl
    same false = refl
odd_step k true =
    elim (cases_eq (k % 2) 1) [
      | inl odd ↦ rw (eq-eqb (k % 2) 1 odd, ne_eqb ((k + 1) % 2) 1 (λ e. omega arith)) refl
      | inr even ↦ rw (ne_eqb (k % 2) 1 even, eq-eqb ((k + 1) % 2) 1 (omega arith)) refl
    ]

pub odd_once : (b : Bool) → is_odd (cond b 1 0) ≡ b
odd_once true = refl
odd_once false = refl
