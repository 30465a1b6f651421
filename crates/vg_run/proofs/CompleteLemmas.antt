-- Where its inputs are in their form and nothing fails, a run ends with an answer.
use Rattle.std.proofs.Common.{◌≡◌, ◌⊎◌, inl, inr, ℕ, List, true, refl, sym, subst, Some}
use Rattle.vg_store.specs.Reading.{FilesState}
use Rattle.vg_store.specs.Writing.{OutState}
use Rattle.vg_words.specs.Request.{size_of, IsRequest}
use Rattle.vg_words.specs.declared.ask.Ask.{Ask}
use Rattle.vg_words.specs.declared.ask.Mode.{Mode}
use Rattle.vg_words.specs.declared.ask.Mode.TheVariants.{Wire, Time, Best, Frontier, Check, Gen, Sta, Segment, Repair, Total, Width}
use Rattle.vg_words.proofs.JudgeLemmas.{one}
use Rattle.vg_design.specs.Designs.{Design}
use Rattle.vg_design.specs.Refusals.{IsFirstRefusal}
use Rattle.design_read.proofs.LawLemmas.{one_is}
use Rattle.mode_gen.specs.Answers.{IsGenAnswer, made_net, made_up}
use Rattle.vg_answer.specs.Answers.{Said}
use Rattle.vg_answer.specs.Faults.{IsShort}
use Rattle.vg_answer.specs.Verdicts.{status_for}
use Rattle.vg_answer.specs.declared.input.Input.{Input}
use Rattle.vg_answer.specs.declared.input.Input.TheVariants.{Spef, Widths}
use Rattle.vg_answer.specs.declared.kind.AnswerKind.{AnswerKind}
use Rattle.vg_answer.specs.declared.kind.AnswerKind.TheVariants.{Report, NoneGood, Refusal, Invalid}
use Rattle.vg_answer.proofs.ApartLemmas.{design_not_faulty, no_both, not_refused}
use Rattle.mode_width.proofs.ApartLemmas.{in_form_not_faulty}
use Rattle.vg_run.specs.Complete.{AreFit, AreInForm, IsAccepted, IsComplete, NothingFailed, is_answer_of}
use Rattle.vg_run.specs.Inputs.{Change, IsLong, IsRead, inputs, told}
use Rattle.vg_run.specs.Modes.{IsAnswerIn, IsFaultIn, design_texts}
use Rattle.vg_run.specs.Outcomes.{Ends, IsStatusOf, status_of}
use Rattle.vg_run.specs.declared.inputs.Flaw.TheVariants.{Failed, TooLong, Faulty}
use Rattle.vg_run.specs.declared.outcome.Outcome.{Outcome}
use Rattle.vg_run.specs.declared.outcome.Outcome.TheVariants.{Printed, Flawed, Taken, Unwritten, WriteFault, Memory}
use Rattle.vg_run.proofs.InputLemmas.{none_first}
use Rattle.vg_run.proofs.KindLemmas.{gives, mode_gives}
use Rattle.vg_run.proofs.RunLemmas.{agree, answer_as, both, faulty_as, not_long, taken_as}

abbrev Bytes : Type 0
Bytes = List ℕ

-- texts in their form have no fault
not_faulty : (mode : Mode) (ask : Ask) (texts : Input → Bytes) (line : Bytes) (input : Input) → AreInForm mode ask texts → IsFaultIn mode ask texts line input → ⊥
not_faulty Wire ask texts line input form (e, f) = no_both form.0 f.fault (texts Spef) form.1 f.found
not_faulty Time ask texts line input form f = design_not_faulty (design_texts texts) form.0 line input form.1 f
not_faulty Best ask texts line input form f = design_not_faulty (design_texts texts) form.0 line input form.1 f
not_faulty Frontier ask texts line input form f = design_not_faulty (design_texts texts) form.0 line input form.1 f
not_faulty Check ask texts line input form f = design_not_faulty (design_texts texts) form.0 line input form.1 f
not_faulty Gen ask texts line input form f = design_not_faulty (made_up (size_of ask)) form.design line input form.design_of f
not_faulty Sta ask texts line input form f = design_not_faulty (design_texts texts) form.0 line input form.1 f
not_faulty Segment ask texts line input form (e, f) = no_both form.0 f.fault (texts Spef) form.1 f.found
not_faulty Repair ask texts line input form f = design_not_faulty (design_texts texts) form.0 line input form.1 f
not_faulty Total ask texts line input form f = design_not_faulty (design_texts texts) form.0 line input form.1 f
not_faulty Width ask texts line input (form, wide) f = in_form_not_faulty (design_texts texts) (texts Widths) form.0 wide.0 line input form.1 wide.1 f

-- the net of made-up texts is not refused where nothing refuses it
made_status : (size : ℕ) (kind : AnswerKind) (said : Said) → IsAccepted size → IsGenAnswer size kind said → is_answer_of Gen (status_for kind) ≡ true
made_status size Report said accepted is = refl
made_status size NoneGood said accepted is = absurd is
made_status size Refusal said accepted (refused, none) =
    let same : refused.design ≡ accepted.design = one_is (made_up size) refused.design accepted.design refused.design_of accepted.design_of in
    absurd (not_refused accepted.design made_net accepted.net refused.refusal accepted.net_of
    (subst (λ (d : Design). IsFirstRefusal d made_net refused.refusal) same refused.refused))
made_status size Invalid said accepted is = absurd is

status_of_kind : (mode : Mode) (kind : AnswerKind) → gives mode kind ≡ true → (mode ≡ Gen → ⊥) → is_answer_of mode (status_for kind) ≡ true
status_of_kind Wire Report e other = refl
status_of_kind Wire NoneGood e other = absurd cc
status_of_kind Wire Refusal e other = refl
status_of_kind Wire Invalid e other = absurd cc
status_of_kind Time Report e other = refl
status_of_kind Time NoneGood e other = absurd cc
status_of_kind Time Refusal e other = refl
status_of_kind Time Invalid e other = absurd cc
status_of_kind Best Report e other = refl
status_of_kind Best NoneGood e other = refl
status_of_kind Best Refusal e other = refl
status_of_kind Best Invalid e other = absurd cc
status_of_kind Frontier Report e other = refl
status_of_kind Frontier NoneGood e other = refl
status_of_kind Frontier Refusal e other = refl
status_of_kind Frontier Invalid e other = absurd cc
status_of_kind Check Report e other = refl
status_of_kind Check NoneGood e other = absurd cc
status_of_kind Check Refusal e other = refl
status_of_kind Check Invalid e other = refl
status_of_kind Gen kind e other = absurd (other refl)
status_of_kind Sta Report e other = refl
status_of_kind Sta NoneGood e other = absurd cc
status_of_kind Sta Refusal e other = refl
status_of_kind Sta Invalid e other = absurd cc
status_of_kind Segment Report e other = refl
status_of_kind Segment NoneGood e other = absurd cc
status_of_kind Segment Refusal e other = refl
status_of_kind Segment Invalid e other = absurd cc
status_of_kind Repair Report e other = refl
status_of_kind Repair NoneGood e other = refl
status_of_kind Repair Refusal e other = refl
status_of_kind Repair Invalid e other = absurd cc
status_of_kind Total Report e other = refl
status_of_kind Total NoneGood e other = refl
status_of_kind Total Refusal e other = refl
status_of_kind Total Invalid e other = absurd cc
status_of_kind Width Report e other = refl
status_of_kind Width NoneGood e other = refl
status_of_kind Width Refusal e other = refl
status_of_kind Width Invalid e other = absurd cc

answer_status : (mode : Mode) (ask : Ask) (texts : Input → Bytes) (kind : AnswerKind) (said : Said) → AreInForm mode ask texts → IsAnswerIn mode ask texts kind said
    → is_answer_of mode (status_for kind) ≡ true
answer_status Wire ask texts kind said form is = status_of_kind Wire kind (mode_gives Wire ask texts kind said is) (λ e. cc)
answer_status Time ask texts kind said form is = status_of_kind Time kind (mode_gives Time ask texts kind said is) (λ e. cc)
answer_status Best ask texts kind said form is = status_of_kind Best kind (mode_gives Best ask texts kind said is) (λ e. cc)
answer_status Frontier ask texts kind said form is = status_of_kind Frontier kind (mode_gives Frontier ask texts kind said is) (λ e. cc)
answer_status Check ask texts kind said form is = status_of_kind Check kind (mode_gives Check ask texts kind said is) (λ e. cc)
answer_status Gen ask texts kind said form is = made_status (size_of ask) kind said form is
answer_status Sta ask texts kind said form is = status_of_kind Sta kind (mode_gives Sta ask texts kind said is) (λ e. cc)
answer_status Segment ask texts kind said form is = status_of_kind Segment kind (mode_gives Segment ask texts kind said is) (λ e. cc)
answer_status Repair ask texts kind said form is = status_of_kind Repair kind (mode_gives Repair ask texts kind said is) (λ e. cc)
answer_status Total ask texts kind said form is = status_of_kind Total kind (mode_gives Total ask texts kind said is) (λ e. cc)
answer_status Width ask texts kind said form is = status_of_kind Width kind (mode_gives Width ask texts kind said is) (λ e. cc)

module _ (ask : Ask) (files : Change FilesState) (out : Change OutState) (b : Input → Bytes) (fit : AreFit files.0 ask b) (fine : NothingFailed files out) where
  ended : (outcome : Outcome) → Ends ask files out outcome → (is_answer_of ask.mode (status_of outcome) ≡ true) ⊎ (status_of outcome ≡ 7)
  ended (Printed kind) (a, read, (said, is, gains, written)) =
      inl (answer_status ask.mode ask b kind said fit.in_form
      (answer_as ask.mode ask a b kind said (agree ask.mode (told files.0 ask) a b read fit.told) is))
  ended (Flawed input Failed) (flawed, _, _) = absurd (fine.reading flawed.caused.0)
  ended (Flawed input TooLong) (flawed, _, _) =
      absurd (none_first (λ i. IsRead (told files.0 ask i) (flawed.texts i)) (λ i. IsLong (told files.0 ask i)) (λ i. (told files.0 ask i ≡ Some (b i)) × IsShort (b i)) (inputs ask.mode) input
      flawed.first (both (λ i. told files.0 ask i ≡ Some (b i)) (λ i. IsShort (b i)) (inputs ask.mode) fit.told fit.short)
      (λ i good long. not_long (told files.0 ask i) (b i) good.0 good.1 long))
  ended (Flawed input (Faulty line)) (flawed, _, _) =
      absurd (not_faulty ask.mode ask b line input fit.in_form
      (faulty_as ask.mode ask flawed.texts b line input (agree ask.mode (told files.0 ask) flawed.texts b flawed.first.0 fit.told) flawed.first.1))
  ended (Taken name) ((a, read, is), _, _) =
      absurd (fit.free name (taken_as ask.mode ask a b name (agree ask.mode (told files.0 ask) a b read fit.told) is))
  ended (Unwritten output) (fails, same) = absurd (fine.writing fails.fault.0)
  ended WriteFault (rose, prints) = absurd (fine.printing rose)
  ended Memory ends = inr refl

pub run_complete : (words : List Bytes) {ask : Ask} {files : Change FilesState} {out err : Change OutState} {status : ℕ} → IsRequest words ask
    → IsStatusOf ask files out err status → IsComplete words files out status
run_complete words {ask} {files} {out} {err} {status} is run other same b fit fine =
    let r : ask ≡ other = one words ask other is same in
    subst (λ (x : Ask). (is_answer_of x.mode status ≡ true) ⊎ (status ≡ 7)) r
    (subst (λ (s : ℕ). (is_answer_of ask.mode s ≡ true) ⊎ (s ≡ 7)) (sym run.status_is)
    (ended ask files out b (subst (λ (x : Ask). AreFit files.0 x b) (sym r) fit) fine run.outcome run.ends))
