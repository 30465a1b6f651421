-- Stages by their lowest step.
use Rattle.std.proofs.Common.{◌≡◌, ℕ, ◌≢◌, Bool, true, false, not, ◌&&◌, refl, cond, Option}
use Rattle.std.proofs.lemmas.Bool.{eq-eqb, ne_eqb}
use Rattle.std.specs.List.{list_all}
use Rattle.elmore.specs.Path.{Falls, is_over, way}
use Rattle.elmore.specs.Stage.{in_stage, ends_stage}
use Rattle.elmore.specs.Cells.{has_cell}
use Rattle.elmore.specs.declared.rep.Rep.{Rep}
use Rattle.elmore.proofs.PathLemmas.{over_self, over_at_root, over_below, way_self, way_below}

pull_not : (a b c : Bool) → (a && (not b && c)) ≡ cond b false (a && c)
pull_not true true c = refl
pull_not true false c = refl
pull_not false true c = refl
pull_not false false c = refl

pull : (a b c : Bool) → (((a && true) && b) && c) ≡ cond b (a && c) false
pull true true c = refl
pull true false c = refl
pull false true c = refl
pull false false c = refl

pub stage_self : (parent : ℕ → ℕ) (cell : ℕ → Option Rep) → Falls parent → (v : ℕ) → in_stage parent cell v v ≡ true
unfolding in_stage
stage_self parent cell falls v = simp (over_self parent falls v, way_self parent falls v)

pub stage_at_root : (parent : ℕ → ℕ) (cell : ℕ → Option Rep) → Falls parent → (v w : ℕ) → parent w ≡ w → w ≢ v → in_stage parent cell v w ≡ false
unfolding in_stage
stage_at_root parent cell falls v w root other = simp (over_at_root parent falls v w root other)

pub stage_below : (parent : ℕ → ℕ) (cell : ℕ → Option Rep) → Falls parent → (v w : ℕ) → parent w ≢ w → w ≢ v
    → in_stage parent cell v w ≡ cond (has_cell cell w) false (in_stage parent cell v (parent w))
unfolding in_stage
stage_below parent cell falls v w below other =
    simp (over_below parent falls v w below other, way_below parent falls v w below other) (pull_not (is_over parent v (parent w)) (has_cell cell w) (list_all (λ (u : ℕ). not (has_cell cell u)) (way parent v (parent w))))

pub end_self : (parent : ℕ → ℕ) (cell : ℕ → Option Rep) → Falls parent → (v : ℕ) → ends_stage parent cell v v ≡ false
unfolding ends_stage
end_self parent cell falls v = simp (over_self parent falls v, eq-eqb v v refl)

pub end_at_root : (parent : ℕ → ℕ) (cell : ℕ → Option Rep) → Falls parent → (v w : ℕ) → parent w ≡ w → w ≢ v → ends_stage parent cell v w ≡ false
unfolding ends_stage
end_at_root parent cell falls v w root other = simp (over_at_root parent falls v w root other)

pub end_below : (parent : ℕ → ℕ) (cell : ℕ → Option Rep) → Falls parent → (v w : ℕ) → parent w ≢ w → w ≢ v
    → ends_stage parent cell v w ≡ cond (has_cell cell w) (in_stage parent cell v (parent w)) false
unfolding ends_stage in_stage
end_below parent cell falls v w below other =
    simp (over_below parent falls v w below other, way_below parent falls v w below other, ne_eqb w v other) (pull (is_over parent v (parent w)) (has_cell cell w) (list_all (λ (u : ℕ). not (has_cell cell u)) (way parent v (parent w))))
