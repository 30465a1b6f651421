-- The stage that a node is in.
use Rattle.std.proofs.Common.{◌≡◌, ℕ, ◌<◌, false, slice_index, arith, inl, inr}
use Rattle.std.proofs.lemmas.Bool.{cases_Bool}
use Rattle.std.proofs.lemmas.List.Sums.{position_or_len_is}
use Rattle.elmore.specs.Path.{Falls}
use Rattle.elmore.specs.Stage.{in_stage}
use Rattle.elmore.proofs.HeadLemmas.{one_stage}
use Rattle.cut_laws.specs.Pieces.{Forest}
use Rattle.vg_split.specs.Stages.{heads, IsInStage}
use Rattle.vg_split.proofs.StageLists.{head_is, heads_differ}
use Rattle.vg_change.specs.Placed.{stage_at}

-- a node is in one stage alone
pub stage_is : (f : Forest) → Falls f.parent → (k w : ℕ) → IsInStage f (heads f) k w → stage_at f w ≡ k
stage_is f falls k w is =
    position_or_len_is (λ v. in_stage f.parent f.cell v w) (heads f) k 0 (let low = is.number_is in omega (arith, low)) before (λ low. is.inside)
  where
    before : (j : ℕ) → j < k → in_stage f.parent f.cell (slice_index (heads f) j) w ≡ false
    before j less =
        let low = is.number_is in
        elim (cases_Bool (in_stage f.parent f.cell (slice_index (heads f) j) w)) [
          | inl here ↦
              absurd (heads_differ f f.n j k (omega (arith, less, low)) low (λ e. absurd (omega (arith, less, e)))
              (one_stage f.parent f.cell falls (slice_index (heads f) j) (slice_index (heads f) k) (head_is f f.n j (omega (arith, less, low))) (head_is f f.n k low) w here is.inside))
          | inr none ↦ none
        ]
