-- What a best solution with widths chooses.
use Rattle.std.specs.Prelude.{◌≡◌, ℕ, ◌*◌, List, length, Option, None, slice_index_or, MatchOption}
use Rattle.elmore.specs.declared.problem.Problem.{Problem}
use Rattle.cand_pairs.specs.Solutions.{cells_by}
use Rattle.wire_widths.specs.Widths.{IsWideGood, IsWideBest}
use Rattle.wire_widths.specs.WideSolutions.{rows_by}
use Rattle.wire_widths.specs.declared.width.Width.{Width}
use Rattle.vg_slack.specs.declared.choices.Choices.{Choices}

-- no placement is good with any widths
abbrev pub HasNoWideGood : Problem → List Width → Type 0
HasNoWideGood p widths = (cells : List (Option ℕ)) (rows : List ℕ) → IsWideGood p widths cells rows → ⊥

abbrev pub choice_at : List (Option ℕ) → ℕ → Option ℕ
choice_at sites site = slice_index_or sites site None

-- the cells and widths that are chosen are best, with this slack
pub record AreBestChoices (p : Problem) (widths : List Width) (choices : Choices) : Type 0 where
  pub each : length choices.sites ≡ 2 * length p.tree.nodes
  pub best : IsWideBest p widths (cells_by p (choice_at choices.sites)) (rows_by p (choice_at choices.sites))
      choices.slack

-- best ones were found, or none is good
abbrev pub AreChoices : Problem → List Width → Option Choices → Type 0
AreChoices p widths found = MatchOption found (HasNoWideGood p widths) (AreBestChoices p widths)
