-- The nodes of a piece: those of the stage, and the cells that end it.
use Rattle.std.proofs.Common.{◌≡◌, ◌≢◌, ℕ, ◌==◌, ◌&&◌, ◌⊎◌, Bool, true, false, not, refl, sym, ap, ◌∙◌, inl, inr}
use Rattle.std.proofs.lemmas.Bool.{cases_Bool, cases_eq, eq-eqb, false≢true, ne_eqb}
use Rattle.elmore.specs.Stage.{in_stage, ends_stage}
use Rattle.elmore.proofs.StageThroughLemmas.{end_inner, end_other, stage_inner}
use Rattle.vg_split.specs.Splits.{Split, forest, head, is_celled}
use Rattle.split_laws.proofs.MemberLemmas.{falls}

abbrev pub is_inside : Split → ℕ → ℕ → Bool
is_inside x k w = in_stage (forest x).parent (forest x).cell (head x k) w

abbrev pub ends_at : Split → ℕ → ℕ → Bool
ends_at x k w = ends_stage (forest x).parent (forest x).cell (head x k) w

-- in the stage a cell stands only where it begins
pub inside_kind : (x : Split) (k w : ℕ) → is_inside x k w ≡ true → (is_celled x w && not (w == head x k)) ≡ false
inside_kind x k w inside = by (cases_eq w (head x k))
  where
    none : (b : Bool) → (b && false) ≡ false
    none true = refl
    none false = refl

    by : (w ≡ head x k) ⊎ (w ≢ head x k) → (is_celled x w && not (w == head x k)) ≡ false
    by (inl e) = ap (λ b. is_celled x w && not b) (eq-eqb w (head x k) e) ∙ none (is_celled x w)
    by (inr e) = ap (λ b. b && not (w == head x k)) (stage_inner (forest x).parent (forest x).cell (falls x) (head x k) w inside e).here

-- a cell that ends it stands elsewhere, and not in the stage
pub record IsCellEnd (x : Split) (k w : ℕ) : Type 0 where
  pub celled : is_celled x w ≡ true
  pub kind : (is_celled x w && not (w == head x k)) ≡ true
  pub outside : is_inside x k w ≡ false

pub end_kind : (x : Split) (k w : ℕ) → ends_at x k w ≡ true → IsCellEnd x k w
end_kind x k w ends =
    let has : is_celled x w ≡ true = (end_inner (forest x).parent (forest x).cell (falls x) (head x k) w ends).here in
    let apart : w ≢ head x k = end_other (forest x).parent (forest x).cell (falls x) (head x k) w ends in
    let other : (w == head x k) ≡ false = ne_eqb w (head x k) apart in
    record {
      celled = has;
      kind = rw (has, other) refl;
      outside = elim (cases_Bool (is_inside x k w)) [
        | inl inside ↦ absurd (false≢true (sym (stage_inner (forest x).parent (forest x).cell (falls x) (head x k) w inside apart).here ∙ has))
        | inr out ↦ out
      ];
    }
