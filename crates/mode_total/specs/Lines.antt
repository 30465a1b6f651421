-- The lines of mode `total`.
use Rattle.std.specs.Prelude.{ℕ, ℤ, List, [], ◌∷◌, ◌++◌, codes, decimal, length, map}
use Rattle.std.specs.Fmt.{signed_decimal}
use Rattle.std.specs.List.{flat_map, zip}
use Rattle.vg_front.specs.declared.root.Point.{Point as Pick}
use Rattle.vg_report.specs.Reports.{pick_report, refusal_line}
use Rattle.vg_answer.specs.Verdicts.{kind_of}
use Rattle.vg_answer.specs.declared.kind.AnswerKind.{AnswerKind}
use Rattle.vg_answer.specs.declared.kind.AnswerKind.TheVariants.{Report, NoneGood, Refusal as Refused}
use Rattle.mode_total.specs.Choices.{Accepted, Choice, Standing}

-- the line of a net that is refused; of one that is accepted none
abbrev pub refusal_in : Standing → List ℕ
refusal_in (Standing.accepted own) = []
refusal_in (Standing.refused name refusal) = refusal_line name refusal

-- `total points P`
abbrev pub total_line : ℕ → List ℕ
total_line count = codes "total points " ++ (decimal count ++ codes "\n")

-- `total none`
abbrev pub total_none_line : List ℕ
total_none_line = codes "total none\n"

-- `point K S`, with K in thousandths and S in zs
abbrev pub point_line : ℕ → ℤ → List ℕ
point_line cost slack = codes "point " ++ (decimal cost ++ (codes " " ++ (signed_decimal slack ++ codes "\n")))

abbrev pub choice_line : Choice → List ℕ
choice_line choice = point_line choice.cost choice.slack

-- the cost, the slack and the cells of what a choice takes for a net, where repeaters have these cells
abbrev pub net_report : List (List ℕ) → Accepted × Pick → List ℕ
net_report cells (own, pick) = pick_report own.name cells own.net.names pick

-- a choice, and then what it takes for each net
abbrev pub choice_report : List (List ℕ) → List Accepted → Choice → List ℕ
choice_report cells nets choice = choice_line choice ++ flat_map (net_report cells) (zip nets choice.picks)

-- how many points there are, and then each; or that there is none
abbrev pub total_report : List (List ℕ) → List Accepted → List Choice → List ℕ
total_report cells nets [] = total_none_line
total_report cells nets (choice ∷ choices) =
    total_line (length (choice ∷ choices)) ++ flat_map (choice_report cells nets) (choice ∷ choices)

-- ---- the kind of the answer

abbrev pub kind_in : Standing → AnswerKind
kind_in (Standing.accepted own) = Report
kind_in (Standing.refused name refusal) = Refused

abbrev pub kind_with : List Choice → AnswerKind
kind_with [] = NoneGood
kind_with (choice ∷ choices) = Report

-- a refusal where one net is refused, else that there is none, where there is no choice, else a report
abbrev pub kind_for : List Standing → List Choice → AnswerKind
kind_for standings choices = kind_of (kind_with choices ∷ map kind_in standings)
