-- The nodes of a piece: those of its stage, and the cells that end it.
use Rattle.std.proofs.Common.{◌≡◌, ◌≢◌, ◌⊎◌, ℕ, Bool, true, false, ◌||◌, refl, sym, ◌∙◌, inl, inr, Option}
use Rattle.std.proofs.lemmas.Bool.{cases_Bool, false≢true}
use Rattle.elmore.specs.Path.{Falls, is_over}
use Rattle.elmore.specs.Stage.{in_stage, ends_stage}
use Rattle.elmore.specs.declared.rep.Rep.{Rep}
use Rattle.elmore.proofs.StageThroughLemmas.{IsInner, stage_over, end_over, stage_inner, end_inner, end_other}
use Rattle.cut_laws.specs.Pieces.{Forest, in_piece}

-- a node of a piece is in the stage or ends it
pub piece_cases : (f : Forest) (v w : ℕ) → in_piece f v w ≡ true
    → (in_stage f.parent f.cell v w ≡ true) ⊎ (ends_stage f.parent f.cell v w ≡ true)
piece_cases f v w inside = either (in_stage f.parent f.cell v w) (ends_stage f.parent f.cell v w) inside
  where
    either : (a b : Bool) → (a || b) ≡ true → (a ≡ true) ⊎ (b ≡ true)
    either true b e = inl refl
    either false b e = inr e

pub stage_in_piece : (f : Forest) (v w : ℕ) → in_stage f.parent f.cell v w ≡ true → in_piece f v w ≡ true
stage_in_piece f v w inside = or_left (in_stage f.parent f.cell v w) (ends_stage f.parent f.cell v w) inside
  where
    or_left : (a b : Bool) → a ≡ true → (a || b) ≡ true
    or_left a b e = rw e refl

pub end_in_piece : (f : Forest) (v w : ℕ) → ends_stage f.parent f.cell v w ≡ true → in_piece f v w ≡ true
end_in_piece f v w ends = or_right (in_stage f.parent f.cell v w) (ends_stage f.parent f.cell v w) ends
  where
    or_right : (a b : Bool) → b ≡ true → (a || b) ≡ true
    or_right true b e = refl
    or_right false b e = e

-- where v begins, every node of its piece is at or below v
pub over_piece : (f : Forest) (v w : ℕ) → in_piece f v w ≡ true → is_over f.parent v w ≡ true
over_piece f v w inside =
    elim (piece_cases f v w inside) [
      | inl s ↦ stage_over f.parent f.cell v w s
      | inr e ↦ end_over f.parent f.cell v w e
    ]

-- a node of a stage does not end it
pub stage_no_end : (parent : ℕ → ℕ) (cell : ℕ → Option Rep) → Falls parent → (v w : ℕ) → in_stage parent cell v w ≡ true → ends_stage parent cell v w ≡ false
stage_no_end parent cell falls v w inside =
    elim (cases_Bool (ends_stage parent cell v w)) [
      | inl ends ↦
          let i : IsInner parent cell v w true = end_inner parent cell falls v w ends in
          let k : IsInner parent cell v w false = stage_inner parent cell falls v w inside (end_other parent cell falls v w ends) in
          absurd (false≢true (sym k.here ∙ i.here))
      | inr other ↦ other
    ]

-- above each node of a piece but the first lies one of the stage
pub piece_above : (f : Forest) → Falls f.parent → (v w : ℕ) → in_piece f v w ≡ true → w ≢ v → in_stage f.parent f.cell v (f.parent w) ≡ true
piece_above f falls v w inside w_v =
    elim (piece_cases f v w inside) [
      | inl s ↦ (stage_inner f.parent f.cell falls v w s w_v).above
      | inr e ↦ (end_inner f.parent f.cell falls v w e).above
    ]
