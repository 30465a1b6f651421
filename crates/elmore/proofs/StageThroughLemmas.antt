-- A stage seen from a node in it, and from a cell that ends it.
use Rattle.std.proofs.Common.{◌≡◌, ◌≢◌, ℕ, Bool, true, false, ◌&&◌, refl, sym, ap, ◌∙◌, subst, cond, arith, inl, inr, Option}
use Rattle.std.proofs.lemmas.Bool.{cases_eq, false≢true}
use Rattle.elmore.specs.Path.{Falls, is_over}
use Rattle.elmore.specs.Cells.{has_cell}
use Rattle.elmore.specs.Stage.{in_stage, ends_stage}
use Rattle.elmore.specs.declared.rep.Rep.{Rep}
use Rattle.elmore.proofs.PathLemmas.{under, below_other, over_below, over_le}
use Rattle.elmore.proofs.StageLemmas.{stage_self, stage_below, end_self, end_below}

first : (a b : Bool) → (a && b) ≡ true → a ≡ true
first true b e = refl
first false b e = e

stage_true : (b x : Bool) → cond b false x ≡ true → (b ≡ false) × (x ≡ true)
stage_true true x e = absurd (false≢true e)
stage_true false x e = (refl, e)

end_true : (b x : Bool) → cond b x false ≡ true → (b ≡ true) × (x ≡ true)
end_true true x e = (refl, e)
end_true false x e = absurd (false≢true e)

pub stage_over : (parent : ℕ → ℕ) (cell : ℕ → Option Rep) (v w : ℕ) → in_stage parent cell v w ≡ true → is_over parent v w ≡ true
unfolding in_stage
stage_over parent cell v w e = first (is_over parent v w) _ e

pub end_over : (parent : ℕ → ℕ) (cell : ℕ → Option Rep) (v w : ℕ) → ends_stage parent cell v w ≡ true → is_over parent v w ≡ true
unfolding ends_stage
end_over parent cell v w e = first (is_over parent v w) _ (first _ _ (first _ _ e))

-- what is known of a node of a stage, or at its end, that does not begin it
pub record IsInner (parent : ℕ → ℕ) (cell : ℕ → Option Rep) (v w : ℕ) (ends : Bool) : Type 0 where
  pub edge : parent w ≢ w
  pub over : is_over parent v w ≡ true
  pub here : has_cell cell w ≡ ends
  pub above : in_stage parent cell v (parent w) ≡ true

pub stage_inner : (parent : ℕ → ℕ) (cell : ℕ → Option Rep) → Falls parent → (v w : ℕ) → in_stage parent cell v w ≡ true → w ≢ v
    → IsInner parent cell v w false
stage_inner parent cell falls v w inside w_v =
    let over : is_over parent v w ≡ true = stage_over parent cell v w inside in
    let edge : parent w ≢ w = below_other parent falls v w over w_v in
    let (here, above) = stage_true (has_cell cell w) (in_stage parent cell v (parent w)) (sym (stage_below parent cell falls v w edge w_v) ∙ inside) in
    record { edge = edge; over = over; here = here; above = above }

pub end_other : (parent : ℕ → ℕ) (cell : ℕ → Option Rep) → Falls parent → (v w : ℕ) → ends_stage parent cell v w ≡ true → w ≢ v
end_other parent cell falls v w ends e = false≢true (sym (end_self parent cell falls v) ∙ ap (ends_stage parent cell v) (sym e) ∙ ends)

pub end_inner : (parent : ℕ → ℕ) (cell : ℕ → Option Rep) → Falls parent → (v w : ℕ) → ends_stage parent cell v w ≡ true
    → IsInner parent cell v w true
end_inner parent cell falls v w ends =
    let w_v : w ≢ v = end_other parent cell falls v w ends in
    let over : is_over parent v w ≡ true = end_over parent cell v w ends in
    let edge : parent w ≢ w = below_other parent falls v w over w_v in
    let (here, above) = end_true (has_cell cell w) (in_stage parent cell v (parent w)) (sym (end_below parent cell falls v w edge w_v) ∙ ends) in
    record { edge = edge; over = over; here = here; above = above }

-- below a node of the stage it goes on as that node's
pub stage_through : (parent : ℕ → ℕ) (cell : ℕ → Option Rep) → Falls parent → (v u : ℕ) → in_stage parent cell v u ≡ true
    → (w : ℕ) → is_over parent u w ≡ true → in_stage parent cell v w ≡ in_stage parent cell u w
stage_through parent cell falls v u inside =
    under parent falls (λ w. in_stage parent cell v w ≡ in_stage parent cell u w) u
    (inside ∙ sym (stage_self parent cell falls u))
    (λ w w_u edge over _ more.
    let w_v : w ≢ v = λ e. w_u (omega (arith, over_le parent falls v u (stage_over parent cell v u inside), over_le parent falls u w over)) in
    stage_below parent cell falls v w edge w_v
    ∙ ap (cond (has_cell cell w) false) more
    ∙ sym (stage_below parent cell falls u w edge w_u))

pub end_through : (parent : ℕ → ℕ) (cell : ℕ → Option Rep) → Falls parent → (v u : ℕ) → in_stage parent cell v u ≡ true
    → (w : ℕ) → is_over parent u w ≡ true → ends_stage parent cell v w ≡ ends_stage parent cell u w
end_through parent cell falls v u inside w over =
    elim (cases_eq w u) [
      | inl e ↦ subst (λ x. ends_stage parent cell v x ≡ ends_stage parent cell u x) (sym e) (at_u ∙ sym (end_self parent cell falls u))
      | inr w_u ↦
          let edge : parent w ≢ w = below_other parent falls u w over w_u in
          let w_v : w ≢ v = λ e. w_u (omega (arith, over_le parent falls v u (stage_over parent cell v u inside), over_le parent falls u w over)) in
          end_below parent cell falls v w edge w_v
          ∙ ap (λ (t : Bool). cond (has_cell cell w) t false) (stage_through parent cell falls v u inside (parent w) (sym (over_below parent falls u w edge w_u) ∙ over))
          ∙ sym (end_below parent cell falls u w edge w_u)
    ]
  where
    at_u : ends_stage parent cell v u ≡ false
    at_u =
        elim (cases_eq u v) [
          | inl e ↦ ap (ends_stage parent cell v) e ∙ end_self parent cell falls v
          | inr u_v ↦
              let i : IsInner parent cell v u false = stage_inner parent cell falls v u inside u_v in
              end_below parent cell falls v u i.edge u_v ∙ ap (λ (b : Bool). cond b (in_stage parent cell v (parent u)) false) i.here
        ]

-- below a cell that ends it there is nothing of it
pub stage_ended : (parent : ℕ → ℕ) (cell : ℕ → Option Rep) → Falls parent → (v u : ℕ) → ends_stage parent cell v u ≡ true
    → (w : ℕ) → is_over parent u w ≡ true → in_stage parent cell v w ≡ false
stage_ended parent cell falls v u ends =
    let i : IsInner parent cell v u true = end_inner parent cell falls v u ends in
    let u_v : u ≢ v = end_other parent cell falls v u ends in
    under parent falls (λ w. in_stage parent cell v w ≡ false) u
    (stage_below parent cell falls v u i.edge u_v ∙ ap (λ (b : Bool). cond b false (in_stage parent cell v (parent u))) i.here)
    (λ w w_u edge over _ more.
    let w_v : w ≢ v = λ e. u_v (omega (arith, over_le parent falls v u i.over, over_le parent falls u w over)) in
    stage_below parent cell falls v w edge w_v ∙ ap (cond (has_cell cell w) false) more ∙ never (has_cell cell w))
  where
    never : (b : Bool) → cond b false false ≡ false
    never true = refl
    never false = refl

pub end_ended : (parent : ℕ → ℕ) (cell : ℕ → Option Rep) → Falls parent → (v u : ℕ) → ends_stage parent cell v u ≡ true
    → (w : ℕ) → is_over parent u w ≡ true → w ≢ u → ends_stage parent cell v w ≡ false
end_ended parent cell falls v u ends w over w_u =
    let i : IsInner parent cell v u true = end_inner parent cell falls v u ends in
    let edge : parent w ≢ w = below_other parent falls u w over w_u in
    let w_v : w ≢ v = λ e. w_u (omega (arith, over_le parent falls v u i.over, over_le parent falls u w over)) in
    end_below parent cell falls v w edge w_v
    ∙ ap (λ (t : Bool). cond (has_cell cell w) t false) (stage_ended parent cell falls v u ends (parent w) (sym (over_below parent falls u w edge w_u) ∙ over))
    ∙ never (has_cell cell w)
  where
    never : (b : Bool) → cond b false false ≡ false
    never true = refl
    never false = refl
