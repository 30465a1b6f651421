-- What is told of the nets that are kept, and what is picked of them.
use Rattle.std.proofs.Common.{◌≡◌, ℕ, suc, ◌||◌, ◌==◌, Bool, true, false, List, [], ◌∷◌, ◌++◌, length, refl, sym, ap, Option, All, flat_map, zip}
use Rattle.std.specs.Prelude.{if◌then◌else◌}
use Rattle.std.specs.List.{AllZip, list_any}
use Rattle.std.proofs.lemmas.List.Elements.{All-cons, All-nil}
use Rattle.std.proofs.lemmas.Option.{get_or_from_slice_get}
use Rattle.vg_front.specs.declared.root.Point.{Point as Pick}
use Rattle.vg_design.specs.Designs.{Design, net_names}
use Rattle.vg_design.specs.Parts.{cells_of}
use Rattle.vg_report.specs.Reports.{pick_report}
use Rattle.vg_answer.specs.Verdicts.{is_invalid, is_none_good, is_refusal, kind_of, worse}
use Rattle.vg_answer.specs.declared.kind.AnswerKind.{AnswerKind}
use Rattle.vg_answer.specs.declared.kind.AnswerKind.TheVariants.{Report, NoneGood, Refusal, Invalid}
use Rattle.mode_total.specs.Choices.{Accepted, Choice, IsPick}
use Rattle.mode_total.specs.Lines.{choice_line, choice_report, kind_with, net_report, total_line, total_report}
use Rattle.mode_total.specs.Steps.{IsKept, IsPickFor, kept_choice, kept_name, kept_report, kept_total}
use Rattle.mode_total.specs.declared.nets.Net.{Net}

-- ---- the kind

-- whether there is a refusal, a certificate that is not valid, and a net without a good placement
abbrev kind_by : Bool → Bool → Bool → AnswerKind
kind_by a b c = if a then Refusal else (if b then Invalid else (if c then NoneGood else Report))

by_cases : (choices : List Choice) (a b c : Bool)
    → kind_by (is_refusal (kind_with choices) || a) (is_invalid (kind_with choices) || b) (is_none_good (kind_with choices) || c) ≡ worse (kind_with choices) (kind_by a b c)
by_cases [] true b c = refl
by_cases [] false true c = refl
by_cases [] false false true = refl
by_cases [] false false false = refl
by_cases (choice ∷ choices) true b c = refl
by_cases (choice ∷ choices) false true c = refl
by_cases (choice ∷ choices) false false true = refl
by_cases (choice ∷ choices) false false false = refl

pub kind_first : (choices : List Choice) (kinds : List AnswerKind) → worse (kind_with choices) (kind_of kinds) ≡ kind_of (kind_with choices ∷ kinds)
kind_first choices kinds = sym (by_cases choices (list_any is_refusal kinds) (list_any is_invalid kinds) (list_any is_none_good kinds))

-- ---- the text

module _ (d : Design) where
  -- a net that is kept has its name
  pub name_is : (own : Accepted) (net : Net) → IsKept d own net → kept_name d net ≡ own.name
  name_is own net is = get_or_from_slice_get (net_names d.spef) net.place own.name [] is.here

  row_is : (own : Accepted) (net : Net) (pick : Pick) → IsKept d own net → kept_report d (net, pick) ≡ net_report (cells_of d.library.repeaters) (own, pick)
  row_is own net pick is = λ i. pick_report (name_is own net is i) (cells_of d.library.repeaters) (is.names i) pick

  rows_are : (own : List Accepted) (nets : List Net) (picks : List Pick) → AllZip (IsKept d) own nets
      → flat_map (kept_report d) (zip nets picks) ≡ flat_map (net_report (cells_of d.library.repeaters)) (zip own picks)
  rows_are [] [] picks each = refl
  rows_are [] (net ∷ nets) picks each = absurd each
  rows_are (one ∷ own) [] picks each = absurd each
  rows_are (one ∷ own) (net ∷ nets) [] each = refl
  rows_are (one ∷ own) (net ∷ nets) (pick ∷ picks) each = λ i. row_is one net pick each.0 i ++ rows_are own nets picks each.1 i

  choices_told : (own : List Accepted) (nets : List Net) (choices : List Choice) → AllZip (IsKept d) own nets
      → flat_map (kept_choice d nets) choices ≡ flat_map (choice_report (cells_of d.library.repeaters) own) choices
  choices_told own nets [] each = refl
  choices_told own nets (choice ∷ choices) each =
      λ i. (choice_line choice ++ rows_are own nets choice.picks each i) ++ choices_told own nets choices each i

  -- what is told of the nets that are kept
  pub total_told : (own : List Accepted) (nets : List Net) (choices : List Choice) → AllZip (IsKept d) own nets
      → kept_total d nets choices ≡ total_report (cells_of d.library.repeaters) own choices
  total_told own nets [] each = refl
  total_told own nets (choice ∷ choices) each =
      ap (λ (text : List ℕ). total_line (length (choice ∷ choices)) ++ text) (choices_told own nets (choice ∷ choices) each)

  -- where there is a point
  pub total_some : (nets : List Net) (choices : List Choice) → (length choices == 0) ≡ false
      → kept_total d nets choices ≡ total_line (length choices) ++ flat_map (kept_choice d nets) choices
  total_some nets [] some = absurd cc
  total_some nets (choice ∷ choices) some = refl

  -- ---- what is picked

  -- picks of accepted nets are good placements of those that are kept
  pub rows_good : (cap : Option ℕ) (own : List Accepted) (nets : List Net) (picks : List Pick) → AllZip (IsKept d) own nets → AllZip (IsPick cap) own picks
      → All (IsPickFor d) (zip nets picks)
  rows_good cap [] [] picks kept are = All-nil (IsPickFor d)
  rows_good cap [] (net ∷ nets) picks kept are = absurd kept
  rows_good cap (one ∷ own) [] picks kept are = absurd kept
  rows_good cap (one ∷ own) (net ∷ nets) [] kept are = absurd are
  rows_good cap (one ∷ own) (net ∷ nets) (pick ∷ picks) kept are =
      All-cons (IsPickFor d) (net, pick) (zip nets picks) (one, kept.0, are.0.placed.good) (rows_good cap own nets picks kept.1 are.1)

  pub kept_long : (own : List Accepted) (nets : List Net) → AllZip (IsKept d) own nets → length nets ≡ length own
  kept_long [] [] each = refl
  kept_long [] (net ∷ nets) each = absurd each
  kept_long (one ∷ own) [] each = absurd each
  kept_long (one ∷ own) (net ∷ nets) each = ap suc (kept_long own nets each.1)
