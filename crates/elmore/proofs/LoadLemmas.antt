-- Loads by the pass from the last node to the root, one edge at a time.
use Rattle.std.proofs.Common.{◌≡◌, ℕ, ◌+◌, ◌^◌, ◌<◌, ◌≤◌, Bool, List, sym, ap, ◌∙◌, eqb, cond, arith, inl, inr, Option, length, get_or, set, ℤ, pos, ◌+ℤ◌}
use Rattle.std.proofs.lemmas.Bool.{eq-eqb, ne_eqb, cases_eq}
use Rattle.std.proofs.lemmas.List.{get_or-set_same, get_or-set_other}
use Rattle.std.proofs.lemmas.Int.{ints}
use Rattle.std.specs.List.{sum_by}
use Rattle.elmore.specs.Path.{Falls, nodes}
use Rattle.elmore.specs.Cells.{input_capacitance}
use Rattle.elmore.specs.Stage.{in_stage, ends_stage, load, input_load, seen}
use Rattle.elmore.specs.Steps.{IsSum}
use Rattle.elmore.specs.declared.rep.Rep.{Rep}
use Rattle.elmore.proofs.FitLemmas.{is_sum, same_sum}
use Rattle.elmore.proofs.StageLemmas.{stage_self, stage_at_root, end_self, end_at_root}
use Rattle.elmore.proofs.SumLemmas.{sum_of_same, sum_at, sum_of_none, sum_of_filter_le}
use Rattle.elmore.proofs.CutLemmas.{cut, cut_hung}
use Rattle.elmore.proofs.HungLoadLemmas.{load_hung, load_other, load_parts, stage_part, ends_part}

-- without edges the load of a node is its own capacitance
pub load_alone : (parent : ℕ → ℕ) → ((u : ℕ) → parent u ≡ u) → (c : ℕ → ℕ) (cell : ℕ → Option Rep) (n v : ℕ) → v < n → load parent c cell n v ≡ c v
unfolding stage_part ends_part
load_alone parent alone c cell n v v_n =
    let falls : Falls parent = λ u. omega (arith, alone u) in
    let stage : (w : ℕ) → cond (in_stage parent cell v w) (c w) 0 ≡ cond (eqb w v) (c w) 0 = λ w.
    elim (cases_eq w v) [
      | inl e ↦ ap (λ (t : Bool). cond t (c w) 0) (ap (in_stage parent cell v) e ∙ stage_self parent cell falls v ∙ sym (eq-eqb w v e))
      | inr e ↦ ap (λ (t : Bool). cond t (c w) 0) (stage_at_root parent cell falls v w (alone w) e ∙ sym (ne_eqb w v e))
    ] in
    let ends : (w : ℕ) → cond (ends_stage parent cell v w) (input_capacitance (cell w)) 0 ≡ 0 = λ w.
    elim (cases_eq w v) [
      | inl e ↦ ap (λ (t : Bool). cond t (input_capacitance (cell w)) 0) (ap (ends_stage parent cell v) e ∙ end_self parent cell falls v)
      | inr e ↦ ap (λ (t : Bool). cond t (input_capacitance (cell w)) 0) (end_at_root parent cell falls v w (alone w) e)
    ] in
    let a : stage_part parent c cell n v ≡ c v = sum_of_same _ _ (nodes n) stage ∙ sum_at c v 0 n (omega arith) (omega arith) in
    let b : ends_part parent cell n v ≡ 0 = sum_of_same _ _ (nodes n) ends ∙ sum_of_none (nodes n) in
    omega (arith, load_parts parent c cell n v)

-- a load is at most all capacitances together
pub load_bound : (parent c : ℕ → ℕ) (cell : ℕ → Option Rep) (n v : ℕ)
    → load parent c cell n v ≤ sum_by c (nodes n) + sum_by (λ w. input_capacitance (cell w)) (nodes n)
unfolding load
load_bound parent c cell n v =
    omega (
      arith,
      sum_of_filter_le c (in_stage parent cell v) (nodes n),
      sum_of_filter_le (λ (w : ℕ). input_capacitance (cell w)) (ends_stage parent cell v) (nodes n),
    )

pub record AreLoads (parent c : ℕ → ℕ) (cell : ℕ → Option Rep) (n : ℕ) (loads : List ℤ) : Type 0 where
  pub each : (v : ℕ) → v < n → get_or loads v (pos 0) ≡ pos (load parent c cell n v)

-- what the pass's step at node i, whose load is own by then, adds to the load of its parent
up_step : (parent c : ℕ → ℕ) (cell : ℕ → Option Rep) (n : ℕ) (loads : List ℤ) (i j own up : ℕ) → i + 1 ≡ j → Falls parent → parent i < i → i < n
    → AreLoads (cut j parent) c cell n loads
    → get_or loads i (pos 0) ≡ pos own
    → up ≡ seen (cell i) own
    → get_or loads (parent i) (pos 0) +ℤ pos up ≡ pos (load (cut i parent) c cell n (parent i))
unfolding input_load
up_step parent c cell n loads i j own up next falls above i_n before own_is up_is =
    let is : own ≡ load (cut j parent) c cell n i = same_sum (get_or loads i (pos 0)) own _ own_is (before.each i i_n) in
    let seen_is : up ≡ input_load (cut j parent) c cell n i = up_is ∙ ap (seen (cell i)) is in
    let sum : load (cut j parent) c cell n (parent i) + up ≡ load (cut i parent) c cell n (parent i) =
    omega (arith, load_hung _ _ i (parent i) (cut_hung parent falls i j next above) c cell n i_n) in
    rw (before.each (parent i) (omega arith)) (omega (arith, ints))

pub loads_more : (parent c : ℕ → ℕ) (cell : ℕ → Option Rep) (n : ℕ) (loads : List ℤ) (i j own up : ℕ) → i + 1 ≡ j → Falls parent → parent i < i → i < n → n ≤ length loads
    → AreLoads (cut j parent) c cell n loads
    → get_or loads i (pos 0) ≡ pos own
    → up ≡ seen (cell i) own
    → AreLoads (cut i parent) c cell n (set loads (parent i) (get_or loads (parent i) (pos 0) +ℤ pos up))
loads_more parent c cell n loads i j own up next falls above i_n room before own_is up_is = record {
  each = λ v v_n.
      elim (cases_eq v (parent i)) [
        | inl e ↦
            rw e
            (get_or-set_same loads (parent i) (get_or loads (parent i) (pos 0) +ℤ pos up) (pos 0) (omega arith)
            ∙ up_step parent c cell n loads i j own up next falls above i_n before own_is up_is)
        | inr e ↦
            get_or-set_other loads (parent i) v (get_or loads (parent i) (pos 0) +ℤ pos up) (pos 0) e
            ∙ before.each v v_n
            ∙ ap pos (sym (load_other _ _ i (parent i) (cut_hung parent falls i j next above) c cell n v e))
      ];
}

-- all capacitances together are small enough for each load
abbrev pub HaveSmallSum : (c : ℕ → ℕ) (cell : ℕ → Option Rep) (n : ℕ) → Type 0
HaveSmallSum c cell n = sum_by c (nodes n) + sum_by (λ w. input_capacitance (cell w)) (nodes n) ≤ 2 ^ 100

pub small_load : (parent c : ℕ → ℕ) (cell : ℕ → Option Rep) (n v : ℕ) (z : ℤ) → HaveSmallSum c cell n → z ≡ pos (load parent c cell n v) → IsSum z
small_load parent c cell n v z small is =
    is_sum z (load parent c cell n v) (omega (arith, load_bound parent c cell n v, small)) is

pub load_read : (parent c : ℕ → ℕ) (cell : ℕ → Option Rep) (n : ℕ) (loads : List ℤ) (v : ℕ) → HaveSmallSum c cell n → AreLoads parent c cell n loads → v < n
    → IsSum (get_or loads v (pos 0))
load_read parent c cell n loads v small are v_n = small_load parent c cell n v (get_or loads v (pos 0)) small (are.each v v_n)

pub load_written : (parent c : ℕ → ℕ) (cell : ℕ → Option Rep) (n : ℕ) (loads : List ℤ) (i j own up : ℕ) → HaveSmallSum c cell n
    → i + 1 ≡ j → Falls parent → parent i < i → i < n
    → AreLoads (cut j parent) c cell n loads
    → get_or loads i (pos 0) ≡ pos own
    → up ≡ seen (cell i) own
    → IsSum (get_or loads (parent i) (pos 0) +ℤ pos up)
load_written parent c cell n loads i j own up small next falls above i_n before own_is up_is =
    small_load (cut i parent) c cell n (parent i) (get_or loads (parent i) (pos 0) +ℤ pos up) small
    (up_step parent c cell n loads i j own up next falls above i_n before own_is up_is)
