-- What a search for the best choice of repeaters and widths answers.
use Rattle.std.specs.Prelude.{ℕ, ◌^◌, ◌<◌, List, Option, MatchOption}
use Rattle.elmore.specs.declared.problem.Problem.{Problem}
use Rattle.wire_widths.specs.Widths.{IsWideBest, chosen_at}
use Rattle.wire_widths.specs.declared.width.Width.{Width}
use Rattle.vg_slack.specs.Choices.{HasNoWideGood}
use Rattle.vg_width.specs.declared.wide.WideBest.{WideBest}

-- none where no placement is good with any widths, and else a best one with its widths
abbrev pub IsWideAnswer : Problem → List Width → Option WideBest → Type 0
IsWideAnswer p widths answer =
    MatchOption answer (HasNoWideGood p widths)
    (λ best. IsWideBest p widths best.placement.cells best.chosen best.slack)

-- these number widths, of which there are few
abbrev pub AreFew : List ℕ → Type 0
AreFew rows = (u : ℕ) → chosen_at rows u < 2 ^ 8
