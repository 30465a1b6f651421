-- Where stages begin: each node is in the stage of one head.
use Rattle.std.proofs.Common.{◌≡◌, ◌≢◌, ℕ, ◌<◌, ◌==◌, ◌||◌, Bool, true, false, refl, sym, ap, ◌∙◌, arith, inl, inr, Option, cond}
use Rattle.std.proofs.lemmas.Bool.{cases_Bool, cases_eq, ne_eqb, false≢true}
use Rattle.elmore.specs.Path.{Falls}
use Rattle.elmore.specs.Cells.{has_cell}
use Rattle.elmore.specs.Stage.{in_stage, ends_stage, is_head}
use Rattle.elmore.specs.declared.rep.Rep.{Rep}
use Rattle.elmore.proofs.PathLemmas.{upward, over_le}
use Rattle.elmore.proofs.RootLemmas.{IsRooted, from_root}
use Rattle.elmore.proofs.StageLemmas.{stage_self, stage_below, end_below}
use Rattle.elmore.proofs.StageThroughLemmas.{IsInner, stage_inner, end_inner, stage_over}

-- a head without a cell is the root
head_none : (cell : ℕ → Option Rep) (v : ℕ) → is_head cell v ≡ true → has_cell cell v ≡ false → v ≡ 0
head_none cell v head none =
    elim (cases_eq v 0) [
      | inl e ↦ e
      | inr e ↦ absurd (false≢true (sym (neither (v == 0) (has_cell cell v) (ne_eqb v 0 e) none) ∙ head))
    ]
  where
    neither : (a b : Bool) → a ≡ false → b ≡ false → (a || b) ≡ false
    neither a b ea eb = rw (ea, eb) refl

pub head_root : (cell : ℕ → Option Rep) → is_head cell 0 ≡ true
head_root cell = refl

pub head_cell : (cell : ℕ → Option Rep) (v : ℕ) → has_cell cell v ≡ true → is_head cell v ≡ true
head_cell cell v e = or_right (v == 0) (has_cell cell v) e
  where
    or_right : (a b : Bool) → b ≡ true → (a || b) ≡ true
    or_right true b e = refl
    or_right false b e = e

-- another head than the root has a cell
pub head_other : (cell : ℕ → Option Rep) (v : ℕ) → is_head cell v ≡ true → v ≢ 0 → has_cell cell v ≡ true
head_other cell v head v_0 =
    elim (cases_Bool (has_cell cell v)) [
      | inl has ↦ has
      | inr none ↦ absurd (v_0 (head_none cell v head none))
    ]

-- inside a stage there is no head but the one at which it begins
inner_head : (parent : ℕ → ℕ) (cell : ℕ → Option Rep) → Falls parent → (v w : ℕ) → in_stage parent cell v w ≡ true → is_head cell w ≡ true → w ≡ v
inner_head parent cell falls v w inside head =
    elim (cases_eq w v) [
      | inl e ↦ e
      | inr w_v ↦
          let i : IsInner parent cell v w false = stage_inner parent cell falls v w inside w_v in
          let w_0 : w ≡ 0 = head_none cell w head i.here in
          omega (arith, over_le parent falls v w i.over)
    ]

pub one_stage : (parent : ℕ → ℕ) (cell : ℕ → Option Rep) → Falls parent → (v u : ℕ) → is_head cell v ≡ true → is_head cell u ≡ true
    → (w : ℕ) → in_stage parent cell v w ≡ true → in_stage parent cell u w ≡ true → v ≡ u
one_stage parent cell falls v u v_head u_head =
    upward parent falls (λ w. in_stage parent cell v w ≡ true → in_stage parent cell u w ≡ true → v ≡ u)
    (λ w more in_v in_u.
    elim (cases_eq w v) [
      | inl e ↦ sym e ∙ inner_head parent cell falls u w in_u (ap (is_head cell) e ∙ v_head)
      | inr w_v ↦ elim (cases_eq w u) [
        | inl e ↦ sym (sym e ∙ inner_head parent cell falls v w in_v (ap (is_head cell) e ∙ u_head))
        | inr w_u ↦
            let i : IsInner parent cell v w false = stage_inner parent cell falls v w in_v w_v in
            let k : IsInner parent cell u w false = stage_inner parent cell falls u w in_u w_u in
            more i.edge i.above k.above
      ]
    ])

-- so a cell ends one stage
pub one_end : (parent : ℕ → ℕ) (cell : ℕ → Option Rep) → Falls parent → (v u : ℕ) → is_head cell v ≡ true → is_head cell u ≡ true
    → (w : ℕ) → ends_stage parent cell v w ≡ true → ends_stage parent cell u w ≡ true → v ≡ u
one_end parent cell falls v u v_head u_head w ends_v ends_u =
    one_stage parent cell falls v u v_head u_head (parent w) (end_inner parent cell falls v w ends_v).above (end_inner parent cell falls u w ends_u).above

-- a node is in the stage of this head
pub record IsHeadOf (parent : ℕ → ℕ) (cell : ℕ → Option Rep) (n w v : ℕ) : Type 0 where
  pub head : is_head cell v ≡ true
  pub within : v < n
  pub inside : in_stage parent cell v w ≡ true

pub head_of : (parent : ℕ → ℕ) (n : ℕ) → IsRooted parent n → (cell : ℕ → Option Rep) (w : ℕ) → w < n → (v : ℕ) × IsHeadOf parent cell n w v
head_of parent n t cell w w_n =
    from_root parent n t (λ w. (v : ℕ) × IsHeadOf parent cell n w v)
    (0, record { head = refl; within = omega arith; inside = stage_self parent cell t.falls 0 })
    (λ w w_0 w_n (v, up).
    elim (cases_Bool (has_cell cell w)) as (λ _. (v : ℕ) × IsHeadOf parent cell n w v) [
      | inl has ↦ (w, record { head = head_cell cell w has; within = w_n; inside = stage_self parent cell t.falls w })
      | inr bare ↦ (
        v,
        record {
          head = up.head;
          within = up.within;
          inside =
              stage_below parent cell t.falls v w (λ e. absurd (omega (arith, t.above w w_0 w_n)))
              (λ e. absurd (omega (arith, t.above w w_0 w_n, over_le parent t.falls v (parent w) (stage_over parent cell v (parent w) up.inside))))
              ∙ ap (λ (b : Bool). cond b false (in_stage parent cell v (parent w))) bare
              ∙ up.inside;
        },
      )
    ])
    w w_n

-- a head ends the stage of one above it
pub record IsEndOf (parent : ℕ → ℕ) (cell : ℕ → Option Rep) (n w v : ℕ) : Type 0 where
  pub head : is_head cell v ≡ true
  pub within : v < n
  pub smaller : v < w
  pub ends : ends_stage parent cell v w ≡ true

pub head_above : (parent : ℕ → ℕ) (n : ℕ) → IsRooted parent n → (cell : ℕ → Option Rep) (w : ℕ) → is_head cell w ≡ true → 0 < w → w < n
    → (v : ℕ) × IsEndOf parent cell n w v
head_above parent n t cell w head w_0 w_n =
    let above : parent w < w = t.above w w_0 w_n in
    let (v, up) = head_of parent n t cell (parent w) (omega arith) in
    let smaller : v < w = omega (arith, over_le parent t.falls v (parent w) (stage_over parent cell v (parent w) up.inside)) in (
      v,
      record {
        head = up.head;
        within = up.within;
        smaller = smaller;
        ends =
            end_below parent cell t.falls v w (λ e. absurd (omega arith)) (λ e. absurd (omega arith))
            ∙ ap (λ (b : Bool). cond b (in_stage parent cell v (parent w)) false) (head_other cell w head (λ e. absurd (omega arith)))
            ∙ up.inside;
      },
    )
