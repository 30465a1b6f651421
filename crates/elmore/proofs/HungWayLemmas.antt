-- Sums and delays over ways in a forest with one more edge.
use Rattle.std.proofs.Common.{◌≡◌, ◌≢◌, ℕ, ◌+◌, ◌*◌, true, refl, sym, ap, ◌∙◌, arith, Option}
use Rattle.std.proofs.lemmas.Bool.{false≢true}
use Rattle.std.specs.List.{sum_by}
use Rattle.elmore.specs.Path.{is_over, way}
use Rattle.elmore.specs.Stage.{input_load}
use Rattle.elmore.specs.Delay.{delay_from, inverters_from}
use Rattle.elmore.specs.declared.rep.Rep.{Rep}
use Rattle.elmore.proofs.PathLemmas.{over_at_root, over_below}
use Rattle.elmore.proofs.HangLemmas.{Hung, along}
use Rattle.elmore.proofs.HungLoadLemmas.{load_other, input_load_other}
use Rattle.elmore.proofs.WayLemmas.{way_sum_self, way_sum_below}
use Rattle.elmore.proofs.PlacedDelayLemmas.{step_delay, delay_parts}
use Rattle.elmore.proofs.PlacedInverterLemmas.{step_inverters, inverters_parts}

-- a sum over any way that was there stays
pub way_sum_other : (before after : ℕ → ℕ) (i p : ℕ) → Hung before after i p → (f g : ℕ → ℕ) → ((u : ℕ) → u ≢ p → f u ≡ g u)
    → (v w : ℕ) → is_over before v w ≡ true → sum_by f (way after v w) ≡ sum_by g (way before v w)
way_sum_other before after i p h f g same v =
    along before after i p h (λ u. is_over before v u ≡ true → sum_by f (way after v u) ≡ sum_by g (way before v u)) v
    (λ _. way_sum_self after h.falls_after f v ∙ sym (way_sum_self before h.falls g v))
    (λ i_v under. absurd (false≢true (sym (over_at_root before h.falls v i h.root i_v) ∙ under)))
    (λ u u_v _ a b under. absurd (false≢true (sym (over_at_root before h.falls v u b u_v) ∙ under)))
    (λ u u_v _ a b e more under.
    let u_p : u ≢ p = λ u_p. b (ap before u_p ∙ h.root_above ∙ sym u_p) in
    omega (
      arith,
      more (sym (over_below before h.falls v u b u_v) ∙ under),
      same u u_p,
      way_sum_below after h.falls_after f v u a u_v,
      ap (λ (x : ℕ). sum_by f (way after v x)) e,
      way_sum_below before h.falls g v u b u_v,
    ))

-- a sum over the way from p to a node below i: that from i, and what i adds
pub way_sum_hung : (before after : ℕ → ℕ) (i p : ℕ) → Hung before after i p → (f g : ℕ → ℕ) → ((u : ℕ) → u ≢ p → f u ≡ g u)
    → (w : ℕ) → is_over before i w ≡ true → sum_by f (way after p w) ≡ sum_by g (way before i w) + g i
way_sum_hung before after i p h f g same =
    along before after i p h (λ u. is_over before i u ≡ true → sum_by f (way after p u) ≡ sum_by g (way before i u) + g i) i
    (λ _.
    omega (
      arith,
      way_sum_below after h.falls_after f p i (λ e. h.apart (sym e ∙ h.edge)) h.apart,
      ap (λ (x : ℕ). sum_by f (way after p x)) h.edge,
      way_sum_self after h.falls_after f p,
      way_sum_self before h.falls g i,
      same i h.apart,
    ))
    (λ other. absurd (other refl))
    (λ u u_i _ a b under. absurd (false≢true (sym (over_at_root before h.falls i u b u_i) ∙ under)))
    (λ u u_i _ a b e more under.
    let u_p : u ≢ p = λ u_p. b (ap before u_p ∙ h.root_above ∙ sym u_p) in
    omega (
      arith,
      more (sym (over_below before h.falls i u b u_i) ∙ under),
      same u u_p,
      way_sum_below after h.falls_after f p u a u_p,
      ap (λ (x : ℕ). sum_by f (way after p x)) e,
      way_sum_below before h.falls g i u b u_i,
    ))

step_other : (before after : ℕ → ℕ) (i p : ℕ) → Hung before after i p → (r c : ℕ → ℕ) (cell : ℕ → Option Rep) (n u : ℕ) → u ≢ p
    → step_delay after r c cell n u ≡ step_delay before r c cell n u
step_other before after i p h r c cell n u u_p =
    rw (load_other before after i p h c cell n u u_p, input_load_other before after i p h c cell n u u_p) refl

-- the delay to a node below i, without the cell of p
pub delay_hung : (before after : ℕ → ℕ) (i p : ℕ) → Hung before after i p → (r c : ℕ → ℕ) (cell : ℕ → Option Rep) (n w : ℕ) → is_over before i w ≡ true
    → sum_by (step_delay after r c cell n) (way after p w) ≡ r i * input_load before c cell n i + delay_from before r c cell n i w
delay_hung before after i p h r c cell n w under =
    omega (
      arith,
      way_sum_hung before after i p h (step_delay after r c cell n) (step_delay before r c cell n) (step_other before after i p h r c cell n) w under,
      delay_parts before r c cell n i w,
    )

-- and to any other node that v was over
pub delay_other : (before after : ℕ → ℕ) (i p : ℕ) → Hung before after i p → (r c : ℕ → ℕ) (cell : ℕ → Option Rep) (n v w : ℕ) → is_over before v w ≡ true
    → sum_by (step_delay after r c cell n) (way after v w) ≡ sum_by (step_delay before r c cell n) (way before v w)
delay_other before after i p h r c cell n =
    way_sum_other before after i p h (step_delay after r c cell n) (step_delay before r c cell n) (step_other before after i p h r c cell n)

-- the same for inverters
pub inverters_hung : (before after : ℕ → ℕ) (i p : ℕ) → Hung before after i p → (cell : ℕ → Option Rep) (w : ℕ) → is_over before i w ≡ true
    → sum_by (step_inverters cell) (way after p w) ≡ inverters_from before cell i w
inverters_hung before after i p h cell w under =
    way_sum_hung before after i p h (step_inverters cell) (step_inverters cell) (λ u _. refl) w under ∙ sym (inverters_parts before cell i w)

pub inverters_other : (before after : ℕ → ℕ) (i p : ℕ) → Hung before after i p → (cell : ℕ → Option Rep) (v w : ℕ) → is_over before v w ≡ true
    → sum_by (step_inverters cell) (way after v w) ≡ sum_by (step_inverters cell) (way before v w)
inverters_other before after i p h cell = way_sum_other before after i p h (step_inverters cell) (step_inverters cell) (λ u _. refl)
