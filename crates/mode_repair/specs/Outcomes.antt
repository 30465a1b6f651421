-- What nets came to, how many of them came to what, and the last line of a report, which tells it.
use Rattle.std.specs.Prelude.{◌≡◌, ◌++◌, ℕ, ℤ, ◌≤ℤ◌, Bool, true, false, List, [], ◌∷◌, Option, Some, None, codes, decimal, length, if◌then◌else◌}
use Rattle.std.specs.Int.Signed.{le_z}
use Rattle.std.specs.Fmt.{signed_decimal}
use Rattle.std.specs.List.{All, Contains, count_by, flat_map}
use Rattle.vg_answer.specs.declared.kind.AnswerKind.{AnswerKind}
use Rattle.vg_answer.specs.declared.kind.AnswerKind.TheVariants.{Report, NoneGood as NoGood, Refusal}
use Rattle.mode_repair.specs.declared.outcome.Outcome.{Outcome}
use Rattle.mode_repair.specs.declared.outcome.Outcome.TheVariants.{Met, Short, NoneGood, Refused}
use Rattle.mode_repair.specs.declared.totals.Totals.{Totals}

abbrev pub is_met : Outcome → Bool
is_met (Met slack) = true
is_met (Short slack) = false
is_met NoneGood = false
is_met Refused = false

abbrev pub is_short : Outcome → Bool
is_short (Met slack) = false
is_short (Short slack) = true
is_short NoneGood = false
is_short Refused = false

abbrev pub is_none_good : Outcome → Bool
is_none_good (Met slack) = false
is_none_good (Short slack) = false
is_none_good NoneGood = true
is_none_good Refused = false

abbrev pub is_refused : Outcome → Bool
is_refused (Met slack) = false
is_refused (Short slack) = false
is_refused NoneGood = false
is_refused Refused = true

-- the kind of the answer: as for no good placement, where a net is short of the target
abbrev pub kind_for : Outcome → AnswerKind
kind_for (Met slack) = Report
kind_for (Short slack) = NoGood
kind_for NoneGood = NoGood
kind_for Refused = Refusal

-- what a net comes to whose placement has this slack
abbrev pub outcome_for : ℤ → ℤ → Outcome
outcome_for target slack = if le_z target slack then Met slack else Short slack

-- the slack that is reported, where a placement is
abbrev pub slacks_in : Outcome → List ℤ
slacks_in (Met slack) = slack ∷ []
slacks_in (Short slack) = slack ∷ []
slacks_in NoneGood = []
slacks_in Refused = []

-- the least of some slacks, where there is any
abbrev pub IsWorst : List ℤ → Option ℤ → Type 0
IsWorst slacks None = slacks ≡ []
IsWorst slacks (Some worst) = Contains slacks worst × All (λ slack. worst ≤ℤ slack) slacks

-- how many nets came to what, and the least slack of all that are reported
pub record AreTotals (outcomes : List Outcome) (totals : Totals) : Type 0 where
  pub nets : totals.nets ≡ length outcomes
  pub met : totals.met ≡ count_by is_met outcomes
  pub short : totals.short ≡ count_by is_short outcomes
  pub none : totals.none ≡ count_by is_none_good outcomes
  pub refused : totals.refused ≡ count_by is_refused outcomes
  pub worst : IsWorst (flat_map slacks_in outcomes) totals.worst

-- totals count one net more than others, which came to this
abbrev pub Counts : Totals → Outcome → Totals → Type 0
Counts old outcome new = (before : List Outcome) → AreTotals before old → AreTotals (before ++ outcome ∷ []) new

abbrev pub worst_text : Option ℤ → List ℕ
worst_text None = codes "none"
worst_text (Some slack) = signed_decimal slack

-- a word and how many nets it is of
abbrev pub count_text : List ℕ → ℕ → List ℕ
count_text word number = word ++ decimal number

-- ` nets A met B short C none D refused E`
abbrev pub counts_text : Totals → List ℕ
counts_text totals =
    count_text (codes " nets ") totals.nets ++ (count_text (codes " met ") totals.met
    ++ (count_text (codes " short ") totals.short ++ (count_text (codes " none ") totals.none
    ++ count_text (codes " refused ") totals.refused)))

-- `repair nets A met B short C none D refused E worst S`, with S in zs
abbrev pub totals_line : Totals → List ℕ
totals_line totals =
    codes "repair" ++ (counts_text totals ++ (codes " worst " ++ (worst_text totals.worst ++ codes "\n")))
