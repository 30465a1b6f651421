-- A forest with one more edge: the root i hangs under the root p.
use Rattle.std.proofs.Common.{◌≡◌, ℕ, ◌≢◌, sym, ap, ◌∙◌, subst, ◌||◌, refl, inl, inr}
use Rattle.std.proofs.lemmas.Bool.{cases_eq}
use Rattle.elmore.specs.Path.{Falls, is_over}
use Rattle.elmore.proofs.PathLemmas.{upward, over_self, over_at_root, over_below}

pub record Hung (before after : ℕ → ℕ) (i p : ℕ) : Type 0 where
  pub falls : Falls before
  pub falls_after : Falls after
  pub apart : i ≢ p
  pub root : before i ≡ i
  pub root_above : before p ≡ p
  pub edge : after i ≡ p
  pub others : (w : ℕ) → w ≢ i → after w ≡ before w

-- induction on the path of w down from v, in both forests
pub along : (before after : ℕ → ℕ) (i p : ℕ) → Hung before after i p → (P : ℕ → Type 0) (v : ℕ)
    → P v
    → (i ≢ v → P i)
    → ((w : ℕ) → w ≢ v → w ≢ i → after w ≡ w → before w ≡ w → P w)
    → ((w : ℕ) → w ≢ v → w ≢ i → after w ≢ w → before w ≢ w → after w ≡ before w → P (before w) → P w)
    → (w : ℕ) → P w
along before after i p h P v self at_i root below =
    upward before h.falls P (λ w more.
    elim (cases_eq w v) [
      | inl e ↦ subst P (sym e) self
      | inr w_v ↦ elim (cases_eq w i) [
        | inl e ↦ subst P (sym e) (at_i (λ i_v. w_v (e ∙ i_v)))
        | inr w_i ↦ elim (cases_eq (before w) w) [
          | inl b ↦ root w w_v w_i (h.others w w_i ∙ b) b
          | inr b ↦ below w w_v w_i (λ a. b (sym (h.others w w_i) ∙ a)) b (h.others w w_i) (more b)
        ]
      ]
    ])

pub after_root : (before after : ℕ → ℕ) (i p : ℕ) → Hung before after i p → after p ≡ p
after_root before after i p h = h.others p (λ e. h.apart (sym e)) ∙ h.root_above

-- what is over i, once it hangs under p
over_hung_at : (before after : ℕ → ℕ) (i p : ℕ) → Hung before after i p → (v : ℕ) → i ≢ v → is_over after v i ≡ is_over after v p
over_hung_at before after i p h v i_v =
    over_below after h.falls_after v i (λ e. h.apart (sym e ∙ h.edge)) i_v ∙ ap (is_over after v) h.edge

-- every node but p is over the same nodes as before
pub over_other : (before after : ℕ → ℕ) (i p : ℕ) → Hung before after i p → (v : ℕ) → v ≢ p
    → (w : ℕ) → is_over after v w ≡ is_over before v w
over_other before after i p h v v_p w =
    along before after i p h (λ u. is_over after v u ≡ is_over before v u) v
    (over_self after h.falls_after v ∙ sym (over_self before h.falls v))
    (λ i_v.
    over_hung_at before after i p h v i_v
    ∙ over_at_root after h.falls_after v p (after_root before after i p h) (λ e. v_p (sym e))
    ∙ sym (over_at_root before h.falls v i h.root i_v))
    (λ u u_v u_i a b. over_at_root after h.falls_after v u a u_v ∙ sym (over_at_root before h.falls v u b u_v))
    (λ u u_v u_i a b e more.
    over_below after h.falls_after v u a u_v ∙ ap (is_over after v) e ∙ more ∙ sym (over_below before h.falls v u b u_v))
    w

-- p is over what it or i was over
pub over_hung : (before after : ℕ → ℕ) (i p : ℕ) → Hung before after i p → (w : ℕ) → is_over after p w ≡ (is_over before p w || is_over before i w)
over_hung before after i p h =
    along before after i p h (λ u. is_over after p u ≡ (is_over before p u || is_over before i u)) p
    (rw (over_self after h.falls_after p, over_self before h.falls p) refl)
    (λ i_p.
    rw (over_hung_at before after i p h p i_p, over_self after h.falls_after p, over_at_root before h.falls p i h.root i_p, over_self before h.falls i)
    refl)
    (λ u u_p u_i a b.
    rw (over_at_root after h.falls_after p u a u_p, over_at_root before h.falls p u b u_p, over_at_root before h.falls i u b u_i) refl)
    (λ u u_p u_i a b e more.
    rw (over_below after h.falls_after p u a u_p, over_below before h.falls p u b u_p, over_below before h.falls i u b u_i, e) more)
