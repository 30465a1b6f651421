-- Delays with cells, by the lowest step of the path, and their bound.
use Rattle.std.proofs.Common.{◌≡◌, ℕ, ◌+◌, ◌*◌, ◌<◌, ◌≤◌, ◌≢◌, true, ap, arith, Option, None, Some}
use Rattle.std.proofs.lemmas.List.Sums.{sum_by_push}
use Rattle.std.proofs.Math.Nat.{mul-le-mul_left}
use Rattle.std.specs.List.{sum_by}
use Rattle.elmore.specs.Path.{Falls, is_over, way, nodes}
use Rattle.elmore.specs.Cells.{cell_delay, input_capacitance}
use Rattle.elmore.specs.Stage.{load, input_load, seen}
use Rattle.elmore.specs.Delay.{delay_from}
use Rattle.elmore.specs.declared.rep.Rep.{Rep}
use Rattle.elmore.proofs.WayLemmas.{way_sum_self, way_sum_below, way_sum_through}
use Rattle.elmore.proofs.SumLemmas.{sum_of_both, sum_of_more, sum_of_fewer, summand_le}
use Rattle.elmore.proofs.RootLemmas.{IsRooted, from_root}
use Rattle.elmore.proofs.LoadLemmas.{load_bound}

-- what a node adds to the delays of the nodes at and below it, seen from above: its wire and its cell
abbrev pub step_delay : (ℕ → ℕ) → (ℕ → ℕ) → (ℕ → ℕ) → (ℕ → Option Rep) → ℕ → ℕ → ℕ
step_delay parent r c cell n u = r u * input_load parent c cell n u + cell_delay (cell u) (load parent c cell n u)

pub delay_parts : (parent r c : ℕ → ℕ) (cell : ℕ → Option Rep) (n v w : ℕ)
    → delay_from parent r c cell n v w ≡ sum_by (step_delay parent r c cell n) (way parent v w) + cell_delay (cell v) (load parent c cell n v)
unfolding delay_from
delay_parts parent r c cell n v w =
    omega (
      arith,
      sum_of_both (λ (u : ℕ). r u * input_load parent c cell n u) (λ (u : ℕ). cell_delay (cell u) (load parent c cell n u)) (way parent v w),
      sum_by_push (λ (u : ℕ). cell_delay (cell u) (load parent c cell n u)) (way parent v w) v,
    )

-- from a node to itself
pub delay_self : (parent : ℕ → ℕ) → Falls parent → (r c : ℕ → ℕ) (cell : ℕ → Option Rep) (n v : ℕ)
    → delay_from parent r c cell n v v ≡ cell_delay (cell v) (load parent c cell n v)
delay_self parent falls r c cell n v =
    omega (arith, delay_parts parent r c cell n v v, way_sum_self parent falls (step_delay parent r c cell n) v)

-- one step down
pub delay_below : (parent : ℕ → ℕ) → Falls parent → (r c : ℕ → ℕ) (cell : ℕ → Option Rep) (n v w : ℕ) → parent w ≢ w → w ≢ v
    → delay_from parent r c cell n v w ≡ delay_from parent r c cell n v (parent w) + step_delay parent r c cell n w
delay_below parent falls r c cell n v w below other =
    omega (
      arith,
      delay_parts parent r c cell n v w,
      delay_parts parent r c cell n v (parent w),
      way_sum_below parent falls (step_delay parent r c cell n) v w below other,
    )

-- by way of a node between
pub delay_through : (parent : ℕ → ℕ) → Falls parent → (r c : ℕ → ℕ) (cell : ℕ → Option Rep) (n v u w : ℕ)
    → is_over parent v u ≡ true → is_over parent u w ≡ true
    → delay_from parent r c cell n v w + cell_delay (cell u) (load parent c cell n u)
    ≡ delay_from parent r c cell n v u + delay_from parent r c cell n u w
delay_through parent falls r c cell n v u w v_u u_w =
    omega (
      arith,
      delay_parts parent r c cell n v w,
      delay_parts parent r c cell n v u,
      delay_parts parent r c cell n u w,
      way_sum_through parent falls (step_delay parent r c cell n) v u w v_u u_w,
    )

-- what is seen of a node is at most all capacitances together
pub input_load_bound : (parent c : ℕ → ℕ) (cell : ℕ → Option Rep) (n v : ℕ) → v < n
    → input_load parent c cell n v ≤ sum_by c (nodes n) + sum_by (λ w. input_capacitance (cell w)) (nodes n)
unfolding input_load
input_load_bound parent c cell n v v_n = either (cell v) (summand_le (λ w. input_capacitance (cell w)) v n v_n)
  where
    either : (o : Option Rep) → input_capacitance o ≤ sum_by (λ w. input_capacitance (cell w)) (nodes n)
        → seen o (load parent c cell n v) ≤ sum_by c (nodes n) + sum_by (λ w. input_capacitance (cell w)) (nodes n)
    either None small = load_bound parent c cell n v
    either (Some rep) small = omega arith

-- a delay from the root, where no wire has to charge more than a, and no cell takes longer than b
pub delay_bound : (parent : ℕ → ℕ) (n : ℕ) → IsRooted parent n → (r c : ℕ → ℕ) (cell : ℕ → Option Rep) (a b : ℕ)
    → ((u : ℕ) → u < n → input_load parent c cell n u ≤ a)
    → ((u : ℕ) → u < n → cell_delay (cell u) (load parent c cell n u) ≤ b)
    → (w : ℕ) → w < n → delay_from parent r c cell n 0 w ≤ a * sum_by r (nodes n) + n * b
delay_bound parent n t r c cell a b input_loads cells w w_n =
    omega (
      arith,
      up_to w w_n,
      mul-le-mul_left a (sum_of_fewer r (w + 1) n (omega arith)),
      mul-le-mul_left b (first w w_n),
    )
  where
    first : (w : ℕ) → w < n → w + 1 ≤ n
    first w w_n = omega arith

    up_to : (u : ℕ) → u < n → delay_from parent r c cell n 0 u ≤ a * sum_by r (nodes (u + 1)) + (u + 1) * b
    up_to u u_n =
        from_root parent n t (λ v. delay_from parent r c cell n 0 v ≤ a * sum_by r (nodes (v + 1)) + (v + 1) * b)
        (omega (arith, delay_self parent t.falls r c cell n 0, cells 0 (omega arith)))
        (λ v v_0 v_n more.
        omega (
          arith,
          more,
          delay_below parent t.falls r c cell n 0 v (λ e. omega (arith, t.above v v_0 v_n)) (λ e. omega arith),
          mul-le-mul_left (r v) (input_loads v v_n),
          cells v v_n,
          mul-le-mul_left a (sum_of_fewer r (parent v + 1) v (omega (arith, t.above v v_0 v_n))),
          mul-le-mul_left b (t.above v v_0 v_n),
          ap (λ (k : ℕ). a * k) (sum_of_more r v),
        ))
        u u_n
