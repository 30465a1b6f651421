-- Trees of n nodes.
use Rattle.std.proofs.Common.{◌≡◌, ℕ, ◌<◌, ◌≤◌, true, sym, ◌∙◌, subst, arith, inl, inr}
use Rattle.std.proofs.lemmas.Bool.{cases_eq}
use Rattle.elmore.specs.Path.{Falls, is_over}
use Rattle.elmore.proofs.PathLemmas.{upward, over_self, over_below}

-- node 0 is the only root among the first n nodes, and every other number is a root of its own
pub record IsRooted (parent : ℕ → ℕ) (n : ℕ) : Type 0 where
  pub falls : Falls parent
  pub root : parent 0 ≡ 0
  pub above : (w : ℕ) → 0 < w → w < n → parent w < w
  pub past : (w : ℕ) → n ≤ w → parent w ≡ w

-- induction on the path from the root down to a node
pub from_root : (parent : ℕ → ℕ) (n : ℕ) → IsRooted parent n → (P : ℕ → Type 0)
    → P 0
    → ((w : ℕ) → 0 < w → w < n → P (parent w) → P w)
    → (w : ℕ) → w < n → P w
from_root parent n rooted P root below =
    upward parent rooted.falls (λ w. w < n → P w) (λ w more w_n.
    elim (cases_eq w 0) [
      | inl e ↦ subst P (sym e) root
      | inr w_0 ↦
          let above : parent w < w = rooted.above w (omega arith) w_n in
          below w (omega arith) w_n (more (λ e. omega arith) (omega arith))
    ])

pub root_over : (parent : ℕ → ℕ) (n : ℕ) → IsRooted parent n → (w : ℕ) → w < n → is_over parent 0 w ≡ true
root_over parent n rooted w w_n =
    from_root parent n rooted (λ u. is_over parent 0 u ≡ true)
    (over_self parent rooted.falls 0)
    (λ u u_0 u_n more.
    over_below parent rooted.falls 0 u (λ e. omega (arith, rooted.above u u_0 u_n)) (λ e. omega arith) ∙ more)
    w w_n
