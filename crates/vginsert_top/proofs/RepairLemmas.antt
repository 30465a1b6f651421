-- What a run promises of nets in mode `repair`, from what it prints.
use Rattle.std.proofs.Common.{◌≡◌, ℕ, ℤ, suc, ◌+◌, List, [], ◌∷◌, ◌++◌, refl, sym, ap, ◌∙◌, subst, arith, map, Some}
use Rattle.std.specs.List.{AllZip, flat_map, slice_get}
use Rattle.elmore.specs.declared.problem.Problem.{Problem}
use Rattle.vg_store.specs.Reading.{FilesState}
use Rattle.vg_store.specs.Writing.{OutState, Gains}
use Rattle.vg_words.specs.Request.{prefix_of, IsRequest}
use Rattle.vg_words.specs.declared.ask.Ask.{Ask}
use Rattle.vg_words.specs.declared.ask.Mode.{Mode}
use Rattle.vg_words.specs.declared.ask.Mode.TheVariants.{Repair as RepairMode}
use Rattle.vg_design.specs.Designs.{Design}
use Rattle.vg_design.specs.Nets.{IsPosedNet}
use Rattle.vg_design.specs.declared.net_problem.PosedNet.{PosedNet}
use Rattle.vg_design.specs.Parts.{cells_of}
use Rattle.vg_design.specs.Refusals.{IsFirstRefusal}
use Rattle.spef_wire.specs.declared.refusal.Refusal.{Refusal}
use Rattle.vg_report.specs.Reports.{best_report, none_line, refusal_line}
use Rattle.vg_design.proofs.AcceptLemmas.{problem_is}
use Rattle.vg_slack.specs.declared.answer.Best.{Best}
use Rattle.vg_repair.specs.Repairs.{HasNoneWithin, IsEnough, IsRepair}
use Rattle.vg_repair.proofs.RepairLemmas.{one_repair, repair_good}
use Rattle.change_laws.specs.Laws.{RetimesInTexts}
use Rattle.design_read.specs.Designs.{Texts}
use Rattle.vg_answer.specs.Answers.{Said, Written}
use Rattle.vg_answer.specs.Nets.{nets_for, problem_in}
use Rattle.vg_answer.specs.Verdicts.{Verdict, text_in}
use Rattle.vg_answer.proofs.ApartLemmas.{not_refused, one_posed}
use Rattle.vg_answer.specs.declared.kind.AnswerKind.{AnswerKind}
use Rattle.vg_answer.specs.declared.output.Output.TheVariants.{Netlist}
use Rattle.vg_place.specs.Placings.{changed_files}
use Rattle.place_laws.specs.Laws.{AreWrittenWith, TellsPlacement, with_files}
use Rattle.place_laws.proofs.PutLemmas.{each_puts}
use Rattle.place_laws.proofs.RetimeLemmas.{written_placements_retime}
use Rattle.mode_repair.specs.Answers.{HasRepair, IsOutcome, IsRepairAnswer, IsRepairSaid}
use Rattle.mode_repair.specs.Outcomes.{AreTotals, kind_for, outcome_for, totals_line}
use Rattle.mode_repair.specs.declared.outcome.Goal.{Goal}
use Rattle.mode_repair.specs.declared.outcome.Outcome.{Outcome}
use Rattle.mode_repair.specs.declared.outcome.Outcome.TheVariants.{Met, Short, NoneGood, Refused}
use Rattle.mode_repair.proofs.RepairLemmas.{repair_put}
use Rattle.vg_run.specs.Inputs.{Change}
use Rattle.vg_run.specs.Modes.{IsAnswerIn, design_texts, goal_of, repair_asked}
use Rattle.vg_run.specs.Run.{AreHeld, Prints}
use Rattle.vg_run.proofs.RequestLemmas.{prefix_is}
use Rattle.vginsert_top.specs.Headline.{RepairHeadline, RepairOf}

abbrev Bytes : Type 0
Bytes = List ℕ

-- a net with a repair has a good placement within the cap, and is not refused
has_good : (d : Design) (goal : Goal) (name : Bytes) (slack : ℤ) (net : PosedNet) → IsPosedNet d name net → HasRepair d goal name slack
    → HasNoneWithin net.problem goal.cap → ⊥
has_good d goal name slack net of has none =
    let good = repair_good has.net.problem goal.cap goal.target has.cells slack has.repair in
    let same : has.net.problem ≡ net.problem = one_posed d name has.net net has.net_of of in
    subst (λ (p : Problem). HasNoneWithin p goal.cap) (sym same) none has.cells good.good.good good.within

-- all repairs of a net have one slack
same_slack : (d : Design) (goal : Goal) (name : Bytes) (slack : ℤ) (net : PosedNet) (best : Best) → IsPosedNet d name net
    → IsRepair net.problem goal.cap goal.target best.placement.cells best.slack → HasRepair d goal name slack → slack ≡ best.slack
same_slack d goal name slack net best of is has =
    let same : has.net.problem ≡ net.problem = one_posed d name has.net net has.net_of of in
    let also = subst (λ (p : Problem). IsRepair p goal.cap goal.target has.cells slack) same has.repair in
    (one_repair net.problem goal.cap goal.target has.cells best.placement.cells slack best.slack also is).1

module _ (d : Design) (goal : Goal) (Retimes : Bytes → ℤ → Type 0) (name : Bytes) (v : Verdict) where
  abbrev placed_text : PosedNet → Best → Bytes
  placed_text net best = best_report name (cells_of d.library.repeaters) (problem_in net) best

  told_best : (o : Outcome) (net : PosedNet) → IsPosedNet d name net → (best : Best)
      → IsRepair net.problem goal.cap goal.target best.placement.cells best.slack → IsOutcome d goal name o
      → (text : Bytes) → text ≡ (placed_text net best) → Retimes name best.slack → RepairOf d goal Retimes name (o, text)
  told_best (Met slack) net of best is (has, enough) text text_is retimes =
      let same = same_slack d goal name slack net best of is has in
      RepairOf.met (problem_in net) (problem_is d name net (problem_in net) of refl refl) best is (subst (IsEnough goal.target) same enough)
      (λ i. (Met (same i), text_is i)) retimes
  told_best (Short slack) net of best is (has, short) text text_is retimes =
      let same = same_slack d goal name slack net best of is has in
      RepairOf.short (problem_in net) (problem_is d name net (problem_in net) of refl refl) best is
      (λ enough. short (subst (IsEnough goal.target) (sym same) enough)) (λ i. (Short (same i), text_is i)) retimes
  told_best NoneGood net of best is (other, other_of, none) text text_is retimes =
      absurd (has_good d goal name best.slack other other_of (record { net = net; net_of = of; cells = best.placement.cells; repair = is }) none)
  told_best Refused net of best is (refusal, first) text text_is retimes = absurd (not_refused d name net refusal of first)

  told_bare : (o : Outcome) (net : PosedNet) → IsPosedNet d name net → HasNoneWithin net.problem goal.cap → IsOutcome d goal name o → (text : Bytes)
      → text ≡ none_line name → RepairOf d goal Retimes name (o, text)
  told_bare (Met slack) net of none (has, enough) text text_is = absurd (has_good d goal name slack net of has none)
  told_bare (Short slack) net of none (has, short) text text_is = absurd (has_good d goal name slack net of has none)
  told_bare NoneGood net of none outcome text text_is =
      RepairOf.none_good (problem_in net) (problem_is d name net (problem_in net) of refl refl) none (λ i. (NoneGood, text_is i))
  told_bare Refused net of none (refusal, first) text text_is = absurd (not_refused d name net refusal of first)

  told_refused : (o : Outcome) (refusal : Refusal) → IsFirstRefusal d name refusal → IsOutcome d goal name o → (text : Bytes) → text ≡ refusal_line name refusal
      → RepairOf d goal Retimes name (o, text)
  told_refused (Met slack) refusal first (has, enough) text text_is = absurd (not_refused d name has.net refusal has.net_of first)
  told_refused (Short slack) refusal first (has, short) text text_is = absurd (not_refused d name has.net refusal has.net_of first)
  told_refused NoneGood refusal first (net, of, none) text text_is = absurd (not_refused d name net refusal of first)
  told_refused Refused refusal first outcome text text_is = RepairOf.refused refusal first (λ i. (Refused, text_is i))

-- ---- all nets that are asked for

module _ (words : List Bytes) (ask : Ask) (texts : Texts) (kind : AnswerKind) (said : Said) (is : IsRequest words ask)
    (answer : IsRepairAnswer texts (repair_asked ask) kind said) where
  abbrev d : Design
  d = answer.design

  abbrev all_verdicts : List Verdict
  all_verdicts = answer.repair_of.nets.verdicts

  abbrev Retimes : Bytes → ℤ → Type 0
  Retimes name slack = RetimesInTexts (with_files texts answer.repair_of.files) (prefix_of ask) name slack

  written_with : AreWrittenWith texts d (prefix_of ask) ask.net all_verdicts answer.repair_of.files
  written_with = record {
    design_of = answer.design_of;
    prefix_is = prefix_is words ask is;
    each = each_puts d (IsRepairSaid d (goal_of ask)) (repair_put d (goal_of ask)) (nets_for d ask.net) all_verdicts answer.repair_of.nets.each;
    files_of = answer.repair_of.files_of;
  }

  one_row : (place : ℕ) (name : Bytes) (v : Verdict) (o : Outcome) → slice_get (nets_for d ask.net) place ≡ Some name → slice_get all_verdicts place ≡ Some v
      → IsRepairSaid d (goal_of ask) name v → IsOutcome d (goal_of ask) name o → RepairOf d (goal_of ask) Retimes name (o, v.text)
  one_row place name v o named told (IsRepairSaid.told_repair net of best repair said_is) comes =
      let tells : TellsPlacement d ask.net all_verdicts name best = record {
        place = place;
        named = named;
        net = net;
        net_of = of;
        is_good = (repair_good net.problem (goal_of ask).cap (goal_of ask).target best.placement.cells best.slack repair).good;
        kind = kind_for (outcome_for (goal_of ask).target best.slack);
        told = told ∙ ap Some said_is;
      } in
      told_best d (goal_of ask) Retimes name v o net of best repair comes v.text (ap text_in said_is)
      (written_placements_retime texts d (prefix_of ask) ask.net all_verdicts answer.repair_of.files written_with name best tells)
  one_row place name v o named told (IsRepairSaid.told_none net of none said_is) comes =
      told_bare d (goal_of ask) Retimes name v o net of none comes v.text (ap text_in said_is)
  one_row place name v o named told (IsRepairSaid.told_refusal refusal first said_is) comes =
      told_refused d (goal_of ask) Retimes name v o refusal first comes v.text (ap text_in said_is)

  -- what some nets come to, with their lines
  record Rows (names : List Bytes) (vs : List Verdict) (os : List Outcome) : Type 0 where
    rows : List (Outcome × Bytes)
    each : AllZip (RepairOf d (goal_of ask) Retimes) names rows
    outcomes : map (λ row. row.0) rows ≡ os
    lines : flat_map text_in vs ≡ flat_map (λ row. row.1) rows

  all_rows : (at : ℕ) (names : List Bytes) (vs : List Verdict) (os : List Outcome)
      → ((k : ℕ) (name : Bytes) → slice_get names k ≡ Some name → slice_get (nets_for d ask.net) (at + k) ≡ Some name)
      → ((k : ℕ) (v : Verdict) → slice_get vs k ≡ Some v → slice_get all_verdicts (at + k) ≡ Some v)
      → AllZip (IsRepairSaid d (goal_of ask)) names vs → AllZip (IsOutcome d (goal_of ask)) names os → Rows names vs os
  all_rows at [] [] [] named told each comes = record { rows = []; each = tt; outcomes = refl; lines = refl }
  all_rows at [] (v ∷ vs) os named told each comes = absurd each
  all_rows at [] [] (o ∷ os) named told each comes = absurd comes
  all_rows at (n ∷ names) [] os named told each comes = absurd each
  all_rows at (n ∷ names) (v ∷ vs) [] named told each comes = absurd comes
  all_rows at (n ∷ names) (v ∷ vs) (o ∷ os) named told each comes =
      let rest = all_rows (at + 1) names vs os
      (λ k name e. ap (slice_get (nets_for d ask.net)) (let f : at + 1 + k ≡ at + suc k = omega arith in f) ∙ named (suc k) name e)
      (λ k w e. ap (slice_get all_verdicts) (let f : at + 1 + k ≡ at + suc k = omega arith in f) ∙ told (suc k) w e)
      each.1 comes.1 in
      record {
        rows = (o, v.text) ∷ rest.rows;
        each = (one_row (at + 0) n v o (named 0 n refl) (told 0 v refl) each.0 comes.0, rest.each);
        outcomes = ap (λ (more : List Outcome). o ∷ more) rest.outcomes;
        lines = ap (λ (more : Bytes). v.text ++ more) rest.lines;
      }

  rows : Rows (nets_for d ask.net) all_verdicts answer.repair_of.outcomes
  rows =
      all_rows 0 (nets_for d ask.net) all_verdicts answer.repair_of.outcomes
      (λ k name e. ap (slice_get (nets_for d ask.net)) (let f : 0 + k ≡ k = omega arith in f) ∙ e)
      (λ k v e. ap (slice_get all_verdicts) (let f : 0 + k ≡ k = omega arith in f) ∙ e)
      answer.repair_of.nets.each answer.repair_of.each

abbrev NO_FILE : Written
NO_FILE = record { output = Netlist; text = [] }

pub repair_headline : (words : List Bytes) (ask : Ask) (files : Change FilesState) (out : Change OutState) (kind : AnswerKind) → ask.mode ≡ RepairMode
    → IsRequest words ask → Prints kind files (Gains out.0 out.1) ask → RepairHeadline files out ask
repair_headline words ask files out kind mode is (texts, read, (said, says, gained, written)) =
    let answer : IsRepairAnswer (design_texts texts) (repair_asked ask) kind said = subst (λ (m : Mode). IsAnswerIn m ask texts kind said) mode says in
    let all = rows words ask (design_texts texts) kind said is answer in
    let held : AreHeld files ask (changed_files answer.repair_of.files)
    = subst (λ (list : List Written). AreHeld files ask list) answer.repair_of.files_are written.whole in
    record {
      written = answer.repair_of.files;
      netlist = held 0 NO_FILE (omega arith);
      parasitics = held 1 NO_FILE (omega arith);
      texts = texts;
      read = read;
      design = answer.design;
      design_of = answer.design_of.design_of;
      rows = all.rows;
      each = all.each;
      totals = answer.repair_of.totals;
      totals_of = subst (λ (os : List Outcome). AreTotals os answer.repair_of.totals) (sym all.outcomes) answer.repair_of.totals_of;
      printed =
          subst (λ (text : Bytes). Gains out.0 out.1 text)
          (answer.repair_of.text_is ∙ ap (λ (lines : Bytes). lines ++ totals_line answer.repair_of.totals) (answer.repair_of.nets.text_is ∙ all.lines)) gained;
    }
