-- What holds at a node and below it depends on the cells there alone.
use Rattle.std.proofs.Common.{◌≡◌, ◌≢◌, ℕ, ◌*◌, Bool, true, false, cond, refl, sym, ap, ◌∙◌, arith, inl, inr, Option, is_some}
use Rattle.std.proofs.lemmas.Bool.{cases_Bool}
use Rattle.elmore.specs.Path.{Falls, is_over, nodes}
use Rattle.elmore.specs.Cells.{input_capacitance, cell_delay}
use Rattle.elmore.specs.Stage.{in_stage, ends_stage, load, input_load}
use Rattle.elmore.specs.Delay.{delay_from, inverters_from}
use Rattle.elmore.specs.declared.rep.Rep.{Rep}
use Rattle.elmore.proofs.PathLemmas.{down, over_self, over_le, over_trans}
use Rattle.elmore.proofs.StageLemmas.{stage_self, stage_at_root, stage_below, end_self, end_at_root, end_below}
use Rattle.elmore.proofs.SumLemmas.{sum_of_same}
use Rattle.elmore.proofs.HungLoadLemmas.{load_parts, stage_part, ends_part}
use Rattle.elmore.proofs.WayLemmas.{way_sum_alike}
use Rattle.elmore.proofs.PlacedDelayLemmas.{step_delay, delay_parts}
use Rattle.elmore.proofs.PlacedInverterLemmas.{step_inverters, inverters_parts}

-- the same cells strictly below v
pub record Agree (parent : ℕ → ℕ) (v : ℕ) (a b : ℕ → Option Rep) : Type 0 where
  pub at : (u : ℕ) → is_over parent v u ≡ true → u ≢ v → a u ≡ b u

pub agree_below : (parent : ℕ → ℕ) → Falls parent → (v u : ℕ) (a b : ℕ → Option Rep) → is_over parent v u ≡ true → Agree parent v a b → Agree parent u a b
agree_below parent falls v u a b v_u agree = record {
  at = λ w u_w w_u.
      agree.at w (over_trans parent falls v u w v_u u_w)
      (λ e. w_u (omega (arith, over_le parent falls v u v_u, over_le parent falls u w u_w)));
}

pub stage_outside : (parent : ℕ → ℕ) (cell : ℕ → Option Rep) (v w : ℕ) → is_over parent v w ≡ false → in_stage parent cell v w ≡ false
unfolding in_stage
stage_outside parent cell v w out = rw out refl

pub end_outside : (parent : ℕ → ℕ) (cell : ℕ → Option Rep) (v w : ℕ) → is_over parent v w ≡ false → ends_stage parent cell v w ≡ false
unfolding ends_stage
end_outside parent cell v w out = rw out refl

pub stage_local : (parent : ℕ → ℕ) → Falls parent → (v : ℕ) (a b : ℕ → Option Rep) → Agree parent v a b → (w : ℕ) → in_stage parent a v w ≡ in_stage parent b v w
stage_local parent falls v a b agree =
    down parent falls (λ u. in_stage parent a v u ≡ in_stage parent b v u) v
    (stage_self parent a falls v ∙ sym (stage_self parent b falls v))
    (λ u u_v r. stage_at_root parent a falls v u r u_v ∙ sym (stage_at_root parent b falls v u r u_v))
    (λ u u_v low more.
    elim (cases_Bool (is_over parent v u)) [
      | inl below ↦
          cc (
            stage_below parent a falls v u low u_v,
            stage_below parent b falls v u low u_v,
            more,
            ap (λ (o : Option Rep). is_some o) (agree.at u below u_v),
          )
      | inr out ↦ stage_outside parent a v u out ∙ sym (stage_outside parent b v u out)
    ])

-- what an end adds
end_local : (parent : ℕ → ℕ) → Falls parent → (v : ℕ) (a b : ℕ → Option Rep) → Agree parent v a b → (w : ℕ)
    → cond (ends_stage parent a v w) (input_capacitance (a w)) 0 ≡ cond (ends_stage parent b v w) (input_capacitance (b w)) 0
end_local parent falls v a b agree =
    down parent falls (λ u. cond (ends_stage parent a v u) (input_capacitance (a u)) 0 ≡ cond (ends_stage parent b v u) (input_capacitance (b u)) 0) v
    (rw (end_self parent a falls v, end_self parent b falls v) refl)
    (λ u u_v r. rw (end_at_root parent a falls v u r u_v, end_at_root parent b falls v u r u_v) refl)
    (λ u u_v low _.
    elim (cases_Bool (is_over parent v u)) [
      | inl below ↦
          rw (
            end_below parent a falls v u low u_v,
            end_below parent b falls v u low u_v,
            agree.at u below u_v,
            stage_local parent falls v a b agree (parent u),
          ) refl
      | inr out ↦ rw (end_outside parent a v u out, end_outside parent b v u out) refl
    ])

pub load_local : (parent : ℕ → ℕ) → Falls parent → (v : ℕ) (a b : ℕ → Option Rep) → Agree parent v a b → (c : ℕ → ℕ) (n : ℕ)
    → load parent c a n v ≡ load parent c b n v
unfolding stage_part ends_part
load_local parent falls v a b agree c n =
    omega (
      arith,
      load_parts parent c a n v,
      load_parts parent c b n v,
      sum_of_same _ _ (nodes n) (λ w. ap (λ (t : Bool). cond t (c w) 0) (stage_local parent falls v a b agree w)),
      sum_of_same _ _ (nodes n) (end_local parent falls v a b agree),
    )

-- with the same cell at v too
input_load_local : (parent : ℕ → ℕ) → Falls parent → (v : ℕ) (a b : ℕ → Option Rep) → a v ≡ b v → Agree parent v a b → (c : ℕ → ℕ) (n : ℕ)
    → input_load parent c a n v ≡ input_load parent c b n v
unfolding input_load
input_load_local parent falls v a b own agree c n = rw (own, load_local parent falls v a b agree c n) refl

pub own_local : (parent : ℕ → ℕ) → Falls parent → (v : ℕ) (a b : ℕ → Option Rep) → a v ≡ b v → Agree parent v a b → (c : ℕ → ℕ) (n : ℕ)
    → cell_delay (a v) (load parent c a n v) ≡ cell_delay (b v) (load parent c b n v)
own_local parent falls v a b own agree c n = rw (own, load_local parent falls v a b agree c n) refl

pub step_local : (parent : ℕ → ℕ) → Falls parent → (v : ℕ) (a b : ℕ → Option Rep) → a v ≡ b v → Agree parent v a b → (r c : ℕ → ℕ) (n : ℕ)
    → step_delay parent r c a n v ≡ step_delay parent r c b n v
step_local parent falls v a b own agree r c n =
    omega (arith, ap (λ (k : ℕ). r v * k) (input_load_local parent falls v a b own agree c n), own_local parent falls v a b own agree c n)

-- THE LAW: where the cells at v and below it are the same
pub record Same (parent : ℕ → ℕ) (v : ℕ) (a b : ℕ → Option Rep) : Type 0 where
  pub at : (u : ℕ) → is_over parent v u ≡ true → a u ≡ b u

pub same_agree : (parent : ℕ → ℕ) (v : ℕ) (a b : ℕ → Option Rep) → Same parent v a b → Agree parent v a b
same_agree parent v a b same = record { at = λ u over _. same.at u over }

pub same_input_load : (parent : ℕ → ℕ) → Falls parent → (v : ℕ) (a b : ℕ → Option Rep) → Same parent v a b → (c : ℕ → ℕ) (n : ℕ)
    → input_load parent c a n v ≡ input_load parent c b n v
same_input_load parent falls v a b same = input_load_local parent falls v a b (same.at v (over_self parent falls v)) (same_agree parent v a b same)

pub same_delay : (parent : ℕ → ℕ) → Falls parent → (v : ℕ) (a b : ℕ → Option Rep) → Same parent v a b → (r c : ℕ → ℕ) (n w : ℕ) → is_over parent v w ≡ true
    → delay_from parent r c a n v w ≡ delay_from parent r c b n v w
same_delay parent falls v a b same r c n w over =
    omega (
      arith,
      delay_parts parent r c a n v w,
      delay_parts parent r c b n v w,
      own_local parent falls v a b (same.at v (over_self parent falls v)) (same_agree parent v a b same) c n,
      way_sum_alike parent falls v (step_delay parent r c a n) (step_delay parent r c b n)
          (λ u low _. step_local parent falls u a b (same.at u low) (agree_below parent falls v u a b low (same_agree parent v a b same)) r c n) w over,
    )

pub same_inverters : (parent : ℕ → ℕ) → Falls parent → (v : ℕ) (a b : ℕ → Option Rep) → Same parent v a b → (w : ℕ) → is_over parent v w ≡ true
    → inverters_from parent a v w ≡ inverters_from parent b v w
same_inverters parent falls v a b same w over =
    omega (
      arith,
      inverters_parts parent a v w,
      inverters_parts parent b v w,
      once v (over_self parent falls v),
      way_sum_alike parent falls v (step_inverters a) (step_inverters b) (λ u low _. once u low) w over,
    )
  where
    once : (u : ℕ) → is_over parent v u ≡ true → step_inverters a u ≡ step_inverters b u
    once u low = rw (same.at u low) refl
