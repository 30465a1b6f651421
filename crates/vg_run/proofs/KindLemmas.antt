-- The kinds of answers that a mode gives.
use Rattle.std.proofs.Common.{◌≡◌, ◌⊎◌, inl, inr, ℕ, ◌||◌, Bool, true, false, List, [], ◌∷◌, refl, sym, ap, ◌∙◌, subst, map, Option}
use Rattle.std.specs.List.{AllZip, list_any}
use Rattle.std.specs.Prelude.{if◌then◌else◌}
use Rattle.vg_words.specs.Request.{cap_of, parts_of, prefix_of, size_of}
use Rattle.vg_words.specs.declared.ask.Ask.{Ask}
use Rattle.vg_words.specs.declared.ask.Mode.{Mode}
use Rattle.vg_words.specs.declared.ask.Mode.TheVariants.{Wire, Time, Best, Frontier, Check, Gen, Sta, Segment, Repair, Total, Width}
use Rattle.vg_design.specs.Designs.{Design}
use Rattle.mode_wire.specs.Answers.{IsWireAnswer}
use Rattle.mode_time.specs.Answers.{IsTimeSaid, nets_to_time}
use Rattle.mode_best.specs.Answers.{IsBestSaid}
use Rattle.mode_frontier.specs.Answers.{IsFrontSaid}
use Rattle.mode_check.specs.Answers.{IsCheckSaid, kind_judged}
use Rattle.mode_gen.specs.Answers.{IsGenAnswer}
use Rattle.mode_repair.specs.Answers.{IsRepairSaid}
use Rattle.mode_repair.specs.Outcomes.{kind_for, outcome_for}
use Rattle.mode_repair.specs.declared.outcome.Goal.{Goal}
use Rattle.mode_repair.specs.declared.outcome.Outcome.{Outcome}
use Rattle.mode_repair.specs.declared.outcome.Outcome.TheVariants.{Met, Short, NoneGood as NoPlacement, Refused}
use Rattle.mode_segment.specs.Answers.{IsSegmentSaid, nets_in}
use Rattle.mode_sta.specs.Answers.{IsStaSaid}
use Rattle.mode_total.specs.Choices.{Choice, Standing}
use Rattle.mode_total.specs.Lines.{kind_for as total_kind_for, kind_in as kind_of_standing, kind_with}
use Rattle.mode_width.specs.Answers.{IsWidthSaid}
use Rattle.wire_widths.specs.declared.width.Width.{Width as WireWidth}
use Rattle.vg_answer.specs.Answers.{Said}
use Rattle.vg_answer.specs.Nets.{nets_for}
use Rattle.vg_answer.specs.Verdicts.{Verdict, bare_verdict, is_invalid, is_none_good, is_refusal, kind_in, kind_of}
use Rattle.vg_answer.specs.declared.input.Input.{Input}
use Rattle.vg_answer.specs.declared.input.Input.TheVariants.{Spef, Cert}
use Rattle.vg_answer.specs.declared.kind.AnswerKind.{AnswerKind}
use Rattle.vg_answer.specs.declared.kind.AnswerKind.TheVariants.{Report, NoneGood, Refusal, Invalid}
use Rattle.vg_run.specs.Modes.{IsAnswerIn, goal_of, one_net}

abbrev Bytes : Type 0
Bytes = List ℕ

-- a mode may answer so
abbrev pub gives : Mode → AnswerKind → Bool
gives mode Report = true
gives mode Refusal = true
gives Best NoneGood = true
gives Frontier NoneGood = true
gives Repair NoneGood = true
gives Total NoneGood = true
gives Width NoneGood = true
gives mode NoneGood = false
gives Check Invalid = true
gives mode Invalid = false

-- ---- of nets one after another

or_either : (a b : Bool) → (a || b) ≡ true → (a ≡ true) ⊎ (b ≡ true)
or_either true b is = inl refl
or_either false b is = inr is

abbrev kind_by : Bool → Bool → Bool → AnswerKind
kind_by a b c = if a then Refusal else (if b then Invalid else (if c then NoneGood else Report))

module _ (ok : AnswerKind → Bool) where
  by_tests : (a b c : Bool) → (a ≡ true → ok Refusal ≡ true) → (b ≡ true → ok Invalid ≡ true) → (c ≡ true → ok NoneGood ≡ true) → ok Report ≡ true
      → ok (kind_by a b c) ≡ true
  by_tests true b c r i n p = r refl
  by_tests false true c r i n p = i refl
  by_tests false false true r i n p = n refl
  by_tests false false false r i n p = p

  module _ (Says : Bytes → Verdict → Type 0) (each : (name : Bytes) (v : Verdict) → Says name v → ok v.kind ≡ true) where
    -- where a test finds one of them, its kind is one of those
    found : (test : AnswerKind → Bool) (kind : AnswerKind) → ((k : AnswerKind) → test k ≡ true → k ≡ kind) → (names : List Bytes) (vs : List Verdict)
        → AllZip Says names vs → list_any test (map kind_in vs) ≡ true → ok kind ≡ true
    found test kind only [] [] all any = absurd cc
    found test kind only [] (v ∷ vs) all any = absurd all
    found test kind only (n ∷ names) [] all any = absurd all
    found test kind only (n ∷ names) (v ∷ vs) all any =
        elim (or_either (test v.kind) (list_any test (map kind_in vs)) any) [
          | inl here ↦ subst (λ (k : AnswerKind). ok k ≡ true) (only v.kind here) (each n v all.0)
          | inr there ↦ found test kind only names vs all.1 there
        ]

    refusal_alone : (k : AnswerKind) → is_refusal k ≡ true → k ≡ Refusal
    refusal_alone Report e = absurd cc
    refusal_alone NoneGood e = absurd cc
    refusal_alone Refusal e = refl
    refusal_alone Invalid e = absurd cc

    invalid_alone : (k : AnswerKind) → is_invalid k ≡ true → k ≡ Invalid
    invalid_alone Report e = absurd cc
    invalid_alone NoneGood e = absurd cc
    invalid_alone Refusal e = absurd cc
    invalid_alone Invalid e = refl

    none_good_alone : (k : AnswerKind) → is_none_good k ≡ true → k ≡ NoneGood
    none_good_alone Report e = absurd cc
    none_good_alone NoneGood e = refl
    none_good_alone Refusal e = absurd cc
    none_good_alone Invalid e = absurd cc

    pub kind_among : (names : List Bytes) (vs : List Verdict) (kind : AnswerKind) → ok Report ≡ true → AllZip Says names vs → kind ≡ kind_of (map kind_in vs)
        → ok kind ≡ true
    kind_among names vs kind report all is =
        subst (λ (k : AnswerKind). ok k ≡ true) (sym is)
        (by_tests (list_any is_refusal (map kind_in vs)) (list_any is_invalid (map kind_in vs)) (list_any is_none_good (map kind_in vs))
        (found is_refusal Refusal refusal_alone names vs all) (found is_invalid Invalid invalid_alone names vs all)
        (found is_none_good NoneGood none_good_alone names vs all) report)

-- ---- mode by mode

wire_gives : (file name : Bytes) (kind : AnswerKind) (said : Said) → IsWireAnswer file name kind said → gives Wire kind ≡ true
wire_gives file name Report said is = refl
wire_gives file name NoneGood said is = absurd is
wire_gives file name Refusal said is = refl
wire_gives file name Invalid said is = absurd is

time_gives : (d : Design) (prefix name : Bytes) (v : Verdict) → IsTimeSaid d prefix name v → gives Time v.kind ≡ true
time_gives d prefix name v (IsTimeSaid.told_slack timed of is) = ap (λ (u : Verdict). gives Time u.kind) is
time_gives d prefix name v (IsTimeSaid.told_stop refusal refused is) = ap (λ (u : Verdict). gives Time u.kind) is

best_gives : (d : Design) (name : Bytes) (v : Verdict) → IsBestSaid d name v → gives Best v.kind ≡ true
best_gives d name v (IsBestSaid.told_best net of best found is) = ap (λ (u : Verdict). gives Best u.kind) is
best_gives d name v (IsBestSaid.told_none net of none is) = ap (λ (u : Verdict). gives Best u.kind) is
best_gives d name v (IsBestSaid.told_refusal refusal refused is) = ap (λ (u : Verdict). gives Best u.kind) is

front_gives : (d : Design) (cap : Option ℕ) (name : Bytes) (v : Verdict) → IsFrontSaid d cap name v → gives Frontier v.kind ≡ true
front_gives d cap name v (IsFrontSaid.told_front net of points are some is) = ap (λ (u : Verdict). gives Frontier u.kind) is
front_gives d cap name v (IsFrontSaid.told_no_point net of none is) = ap (λ (u : Verdict). gives Frontier u.kind) is
front_gives d cap name v (IsFrontSaid.told_refusal refusal refused is) = ap (λ (u : Verdict). gives Frontier u.kind) is

judged_gives : (valid : Bool) → gives Check (kind_judged valid) ≡ true
judged_gives true = refl
judged_gives false = refl

check_gives : (d : Design) (name cert : Bytes) (v : Verdict) → IsCheckSaid d name cert v → gives Check v.kind ≡ true
check_gives d name cert v (IsCheckSaid.told_judgement net of valid line judged is) = ap (λ (u : Verdict). gives Check u.kind) is ∙ judged_gives valid
check_gives d name cert v (IsCheckSaid.told_refusal refusal refused is) = ap (λ (u : Verdict). gives Check u.kind) is

gen_gives : (size : ℕ) (kind : AnswerKind) (said : Said) → IsGenAnswer size kind said → gives Gen kind ≡ true
gen_gives size Report said is = refl
gen_gives size NoneGood said is = absurd is
gen_gives size Refusal said is = refl
gen_gives size Invalid said is = absurd is

sta_gives : (d : Design) (kind : AnswerKind) (text : Bytes) → IsStaSaid d kind text → gives Sta kind ≡ true
sta_gives d kind text (IsStaSaid.told_slacks found timed is said) = ap (gives Sta) is
sta_gives d kind text (IsStaSaid.told_refusal name refusal refused is said) = ap (gives Sta) is
sta_gives d kind text (IsStaSaid.told_cycle name behind is said) = ap (gives Sta) is
sta_gives d kind text (IsStaSaid.told_no_path none is said) = ap (gives Sta) is

segment_gives : (text : Bytes) (parts : ℕ) (name : Bytes) (v : Verdict) → IsSegmentSaid text parts name v → gives Segment v.kind ≡ true
segment_gives text parts name v (IsSegmentSaid.told_cut net fit is) = ap (λ (u : Verdict). gives Segment u.kind) is
segment_gives text parts name v (IsSegmentSaid.told_refusal refusal refused is) = ap (λ (u : Verdict). gives Segment u.kind) is

outcome_gives : (outcome : Outcome) → gives Repair (kind_for outcome) ≡ true
outcome_gives (Met slack) = refl
outcome_gives (Short slack) = refl
outcome_gives NoPlacement = refl
outcome_gives Refused = refl

repair_gives : (d : Design) (goal : Goal) (name : Bytes) (v : Verdict) → IsRepairSaid d goal name v → gives Repair v.kind ≡ true
repair_gives d goal name v (IsRepairSaid.told_repair net of best repair is) =
    ap (λ (u : Verdict). gives Repair u.kind) is ∙ outcome_gives (outcome_for goal.target best.slack)
repair_gives d goal name v (IsRepairSaid.told_none net of none is) = ap (λ (u : Verdict). gives Repair u.kind) is
repair_gives d goal name v (IsRepairSaid.told_refusal refusal refused is) = ap (λ (u : Verdict). gives Repair u.kind) is

-- no net and no choice tells that a certificate is not valid
valid_standings : (standings : List Standing) → list_any is_invalid (map kind_of_standing standings) ≡ false
valid_standings [] = refl
valid_standings (Standing.accepted own ∷ standings) = valid_standings standings
valid_standings (Standing.refused name refusal ∷ standings) = valid_standings standings

valid_kinds : (standings : List Standing) (choices : List Choice) → list_any is_invalid (kind_with choices ∷ map kind_of_standing standings) ≡ false
valid_kinds standings [] = valid_standings standings
valid_kinds standings (choice ∷ choices) = valid_standings standings

total_gives : (standings : List Standing) (choices : List Choice) → gives Total (total_kind_for standings choices) ≡ true
total_gives standings choices =
    let kinds = kind_with choices ∷ map kind_of_standing standings in
    by_tests (gives Total) (list_any is_refusal kinds) (list_any is_invalid kinds) (list_any is_none_good kinds) (λ _. refl)
    (λ any. absurd (let e : false ≡ true = sym (valid_kinds standings choices) ∙ any in cc)) (λ _. refl) refl

width_gives : (d : Design) (widths : List WireWidth) (name : Bytes) (v : Verdict) → IsWidthSaid d widths name v → gives Width v.kind ≡ true
width_gives d widths name v (IsWidthSaid.told_best net of fits best wide is) = ap (λ (u : Verdict). gives Width u.kind) is
width_gives d widths name v (IsWidthSaid.told_none net of fits none is) = ap (λ (u : Verdict). gives Width u.kind) is
width_gives d widths name v (IsWidthSaid.told_too_large net of large is) = ap (λ (u : Verdict). gives Width u.kind) is
width_gives d widths name v (IsWidthSaid.told_refusal refusal refused is) = ap (λ (u : Verdict). gives Width u.kind) is

pub mode_gives : (mode : Mode) (ask : Ask) (texts : Input → Bytes) (kind : AnswerKind) (said : Said) → IsAnswerIn mode ask texts kind said
    → gives mode kind ≡ true
mode_gives Wire ask texts kind said is = wire_gives (texts Spef) (one_net ask) kind said is
mode_gives Time ask texts kind said is =
    kind_among (gives Time) (IsTimeSaid is.design (prefix_of ask)) (time_gives is.design (prefix_of ask))
    (nets_to_time is.design (prefix_of ask) ask.net) is.nets.verdicts kind refl is.nets.each is.nets.kind_is
mode_gives Best ask texts kind said is =
    kind_among (gives Best) (IsBestSaid is.design) (best_gives is.design) (nets_for is.design ask.net) is.best_of.nets.verdicts kind refl
    is.best_of.nets.each is.best_of.nets.kind_is
mode_gives Frontier ask texts kind said is =
    kind_among (gives Frontier) (IsFrontSaid is.design (cap_of ask)) (front_gives is.design (cap_of ask)) (nets_for is.design ask.net)
    is.nets.verdicts kind refl is.nets.each is.nets.kind_is
mode_gives Check ask texts kind said is = check_gives is.design (one_net ask) (texts Cert) (bare_verdict kind said.text) is.says
mode_gives Gen ask texts kind said is = gen_gives (size_of ask) kind said is
mode_gives Sta ask texts kind said is = sta_gives is.design kind said.text is.is_said
mode_gives Segment ask texts kind said is =
    kind_among (gives Segment) (IsSegmentSaid (texts Spef) (parts_of ask)) (segment_gives (texts Spef) (parts_of ask))
    (nets_in (texts Spef) ask.net) is.nets.verdicts kind refl is.nets.each is.nets.kind_is
mode_gives Repair ask texts kind said is =
    kind_among (gives Repair) (IsRepairSaid is.design (goal_of ask)) (repair_gives is.design (goal_of ask)) (nets_for is.design ask.net)
    is.repair_of.nets.verdicts kind refl is.repair_of.nets.each is.repair_of.nets.kind_is
mode_gives Total ask texts kind said is = ap (gives Total) is.total.kind_is ∙ total_gives is.total.standings is.total.choices
mode_gives Width ask texts kind said is = width_gives is.design is.widths (one_net ask) (bare_verdict kind said.text) is.says

-- an answer that a certificate is not valid writes no file
pub no_files_invalid : (mode : Mode) (ask : Ask) (texts : Input → Bytes) (said : Said) → IsAnswerIn mode ask texts Invalid said → said.files ≡ []
no_files_invalid Wire ask texts said is = absurd is
no_files_invalid Time ask texts said is = is.no_files
no_files_invalid Best ask texts said is = absurd (let e : false ≡ true = mode_gives Best ask texts Invalid said is in cc)
no_files_invalid Frontier ask texts said is = is.no_files
no_files_invalid Check ask texts said is = is.no_files
no_files_invalid Gen ask texts said is = absurd is
no_files_invalid Sta ask texts said is = is.no_files
no_files_invalid Segment ask texts said is = absurd (let e : false ≡ true = mode_gives Segment ask texts Invalid said is in cc)
no_files_invalid Repair ask texts said is = absurd (let e : false ≡ true = mode_gives Repair ask texts Invalid said is in cc)
no_files_invalid Total ask texts said is = absurd (let e : false ≡ true = mode_gives Total ask texts Invalid said is in cc)
no_files_invalid Width ask texts said is = is.no_files
