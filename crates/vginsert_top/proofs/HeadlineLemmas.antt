-- What a run promises of nets and certificates, from what it prints.
use Rattle.std.proofs.Common.{◌≡◌, ◌≢◌, ◌⊎◌, inl, inr, ℕ, suc, ◌+◌, ◌<◌, ◌≤◌, List, [], ◌∷◌, ◌++◌, refl, ap, ◌∙◌, subst, arith, map, Option, Some}
use Rattle.std.specs.List.{AllZip, Contains, flat_map, slice_get}
use Rattle.std.proofs.lemmas.List.Elements.{All-contains}
use Rattle.vg_store.specs.Reading.{FilesState}
use Rattle.vg_store.specs.Writing.{OutState, Gains}
use Rattle.vg_words.specs.Request.{cap_of, parts_of, prefix_of, IsRequest}
use Rattle.vg_words.proofs.JudgeLemmas.{few}
use Rattle.vg_words.specs.declared.ask.Ask.{Ask}
use Rattle.vg_words.specs.declared.ask.Mode.{Mode}
use Rattle.vg_words.specs.declared.ask.Mode.TheVariants.{Wire, Time, Best as BestMode, Frontier, Check, Gen, Sta as StaMode, Segment as SegmentMode, Repair as RepairMode, Total as TotalMode, Width as WidthMode}
use Rattle.spef_net.specs.declared.net.ParNet.{ParNet}
use Rattle.spef_patch_laws.specs.ReplacementLaws.{HasSameNet, replaced_names}
use Rattle.spef_patch_laws.specs.Replacements.{replaced}
use Rattle.vg_segment.specs.Texts.{IsFit}
use Rattle.vg_segment.proofs.FitLemmas.{fit_not_refused, replaced_is_fit}
use Rattle.segment_laws.specs.SegmentedTexts.{IsCutIn, IsSegmentedText}
use Rattle.segment_laws.proofs.SegmentedTextLemmas.{cut_sections_are_read}
use Rattle.segment_laws.proofs.SegmentedDesignLemmas.{cut_nets_are_no_worse}
use Rattle.vg_design.specs.Designs.{Design}
use Rattle.vg_design.proofs.AcceptLemmas.{problem_is}
use Rattle.design_read.specs.Designs.{Texts}
use Rattle.vg_answer.specs.Answers.{Said, Written}
use Rattle.vg_answer.specs.Nets.{nets_for, problem_in}
use Rattle.vg_answer.specs.Verdicts.{Verdict, text_in}
use Rattle.vg_answer.specs.declared.input.Input.TheVariants.{Spef}
use Rattle.vg_answer.proofs.ApartLemmas.{few_refusals}
use Rattle.vg_answer.specs.declared.kind.AnswerKind.{AnswerKind}
use Rattle.vg_answer.specs.declared.kind.AnswerKind.TheVariants.{Report, NoneGood, Refusal}
use Rattle.vg_answer.specs.declared.output.Output.TheVariants.{Netlist, Parasitics}
use Rattle.mode_best.specs.Answers.{IsBestAnswer, IsBestSaid, written_files}
use Rattle.mode_frontier.specs.Answers.{IsFrontAnswer, IsFrontSaid}
use Rattle.mode_segment.specs.Answers.{IsSegmentAnswer, IsSegmentSaid, nets_in}
use Rattle.mode_sta.specs.Answers.{IsStaAnswer, IsStaSaid}
use Rattle.vg_run.specs.Inputs.{Change, cert_in, written_cert}
use Rattle.vg_run.specs.Modes.{IsAnswerIn, best_asked, design_texts}
use Rattle.vg_run.specs.Outcomes.{IsStatusOf}
use Rattle.vg_run.specs.Run.{AreHeld, HoldsAt, Prints}
use Rattle.vg_run.proofs.RunLemmas.{run_printed}
use Rattle.place_laws.specs.Laws.{with_files}
use Rattle.run_laws.specs.Laws.{TellsBest, WritesCertificate}
use Rattle.run_laws.proofs.RetimeLemmas.{written_files_retime}
use Rattle.run_laws.proofs.CertLemmas.{certificates_are_written, valid_certificates_are_best, written_certificates_check}
use Rattle.vginsert_top.proofs.RepairLemmas.{repair_headline}
use Rattle.vginsert_top.proofs.TotalLemmas.{total_headline}
use Rattle.vginsert_top.proofs.WidthLemmas.{width_headline}
use Rattle.vginsert_top.specs.Headline.{BestHeadline, BestOf, Certified, FrontOf, Headline, HeadlineIn, SegmentHeadline, SegmentOf, Shown, StaHeadline, StaOf}

abbrev Bytes : Type 0
Bytes = List ℕ

-- the texts of what is said of nets, one after another
flat_lines : (vs : List Verdict) → flat_map text_in vs ≡ flat_map (λ (line : Bytes). line) (map text_in vs)
flat_lines [] = refl
flat_lines (v ∷ vs) = ap (λ (rest : Bytes). v.text ++ rest) (flat_lines vs)

-- ---- mode `best`

module _ (words : List Bytes) (ask : Ask) (texts : Texts) (kind : AnswerKind) (said : Said) (is : IsRequest words ask)
    (answer : IsBestAnswer texts (best_asked ask) kind said) where
  abbrev d : Design
  d = answer.design

  abbrev all_verdicts : List Verdict
  all_verdicts = answer.best_of.nets.verdicts

  abbrev Tells : Bytes → Bytes → Type 0
  Tells name lines = BestOf d (with_files texts answer.best_of.files) (prefix_of ask) name lines

  one_best : (place : ℕ) (name : Bytes) (v : Verdict) → slice_get (nets_for d ask.net) place ≡ Some name → slice_get all_verdicts place ≡ Some v
      → IsBestSaid d name v → Tells name v.text
  one_best place name v named told (IsBestSaid.told_best net of best found said_is) =
      let tells : TellsBest answer name best
      = record { place = place; named = named; net = net; net_of = of; found = found; told = told ∙ ap Some said_is } in
      BestOf.placed (problem_in net) (problem_is d name net (problem_in net) of refl refl) best found (ap text_in said_is)
      (written_files_retime words ask texts kind said is answer name best tells)
  one_best place name v named told (IsBestSaid.told_none net of none said_is) =
      BestOf.none_good (problem_in net) (problem_is d name net (problem_in net) of refl refl) none (ap text_in said_is)
  one_best place name v named told (IsBestSaid.told_refusal refusal refused said_is) = BestOf.refused refusal refused (ap text_in said_is)

  all_best : (at : ℕ) (names : List Bytes) (vs : List Verdict)
      → ((k : ℕ) (name : Bytes) → slice_get names k ≡ Some name → slice_get (nets_for d ask.net) (at + k) ≡ Some name)
      → ((k : ℕ) (v : Verdict) → slice_get vs k ≡ Some v → slice_get all_verdicts (at + k) ≡ Some v)
      → AllZip (IsBestSaid d) names vs → AllZip Tells names (map text_in vs)
  all_best at [] [] named told each = tt
  all_best at [] (v ∷ vs) named told each = absurd each
  all_best at (n ∷ names) [] named told each = absurd each
  all_best at (n ∷ names) (v ∷ vs) named told each = (
    one_best (at + 0) n v (named 0 n refl) (told 0 v refl) each.0,
    all_best (at + 1) names vs
        (λ k name e. ap (slice_get (nets_for d ask.net)) (let f : at + 1 + k ≡ at + suc k = omega arith in f) ∙ named (suc k) name e)
        (λ k w e. ap (slice_get all_verdicts) (let f : at + 1 + k ≡ at + suc k = omega arith in f) ∙ told (suc k) w e)
        each.1,
  )

  each_best : AllZip Tells (nets_for d ask.net) (map text_in all_verdicts)
  each_best =
      all_best 0 (nets_for d ask.net) all_verdicts
      (λ k name e. ap (slice_get (nets_for d ask.net)) (let f : 0 + k ≡ k = omega arith in f) ∙ e)
      (λ k v e. ap (slice_get all_verdicts) (let f : 0 + k ≡ k = omega arith in f) ∙ e)
      answer.best_of.nets.each

abbrev NO_FILE : Written
NO_FILE = record { output = Netlist; text = [] }

module _ (words : List Bytes) (ask : Ask) (files : Change FilesState) (out : Change OutState) (is : IsRequest words ask) where
  best_answer : (kind : AnswerKind) (mode : ask.mode ≡ BestMode) (p : Prints kind files (Gains out.0 out.1) ask)
      → IsBestAnswer (design_texts p.0) (best_asked ask) kind p.2.0
  best_answer kind mode (texts, read, (said, says, gained, written)) = subst (λ (m : Mode). IsAnswerIn m ask texts kind said) mode says

  best_headline : (kind : AnswerKind) → ask.mode ≡ BestMode → Prints kind files (Gains out.0 out.1) ask → BestHeadline files out ask
  best_headline kind mode (texts, read, (said, says, gained, written)) =
      let answer = best_answer kind mode (texts, read, (said, says, gained, written)) in
      let held : AreHeld files ask (written_files answer.best_of.files answer.best_of.cert)
      = subst (λ (list : List Written). AreHeld files ask list) answer.best_of.files_are written.whole in
      record {
        written = answer.best_of.files;
        netlist = held 0 NO_FILE (omega arith);
        parasitics = held 1 NO_FILE (omega arith);
        reports = record {
          texts = texts;
          read = read;
          design = answer.design;
          design_of = answer.design_of.design_of;
          lines = map text_in answer.best_of.nets.verdicts;
          each = each_best words ask (design_texts texts) kind said is answer;
          printed = subst (λ (text : Bytes). Gains out.0 out.1 text) (answer.best_of.nets.text_is ∙ flat_lines answer.best_of.nets.verdicts) gained;
        };
      }

  -- ---- certificates

  has_certificate : (kind : AnswerKind) → kind ≢ Refusal → Prints kind files (Gains out.0 out.1) ask → Certified files out ask
  has_certificate kind accepted (texts, read, (said, says, gained, written)) mode file named =
      let answer = best_answer kind mode (texts, read, (said, says, gained, written)) in
      let made : WritesCertificate answer = certificates_are_written words ask (design_texts texts) kind said is mode file named answer accepted in
      let listed = answer.best_of.files_are ∙ ap (written_files answer.best_of.files) made.written in
      let held : AreHeld files ask (written_files answer.best_of.files (Some made.text))
      = subst (λ (list : List Written). AreHeld files ask list) listed written.whole in
      let there : HoldsAt files.1 (written_cert ask) made.text = held 2 NO_FILE (omega arith) in
      record {
        texts = texts;
        read = read;
        design = answer.design;
        design_of = answer.design_of.design_of;
        name = made.name;
        named = made.named;
        cert = made.text;
        held = subst (λ (o : Option Bytes). HoldsAt files.1 o made.text) (ap (λ (m : Mode). cert_in m ask) mode) there;
        kind = kind;
        line = said.text;
        printed = gained;
        certifies = made.certifies;
        checks = λ also told checked. written_certificates_check (design_texts texts) (best_asked ask) kind also said told answer made checked;
      }

  shown : Prints Report files (Gains out.0 out.1) ask → Shown files out ask
  shown prints mode = valid_certificates_are_best words ask files out is mode prints

-- ---- mode `frontier`

one_front : (d : Design) (cap : Option ℕ) (name : Bytes) (v : Verdict) → IsFrontSaid d cap name v → FrontOf d cap name v.text
one_front d cap name v (IsFrontSaid.told_front net of points are some said_is) =
    FrontOf.points (problem_in net) (problem_is d name net (problem_in net) of refl refl) points are some (ap text_in said_is)
one_front d cap name v (IsFrontSaid.told_no_point net of none said_is) =
    FrontOf.none_within (problem_in net) (problem_is d name net (problem_in net) of refl refl) none (ap text_in said_is)
one_front d cap name v (IsFrontSaid.told_refusal refusal refused said_is) = FrontOf.refused refusal refused (ap text_in said_is)

all_front : (d : Design) (cap : Option ℕ) (names : List Bytes) (vs : List Verdict) → AllZip (IsFrontSaid d cap) names vs
    → AllZip (FrontOf d cap) names (map text_in vs)
all_front d cap [] [] each = tt
all_front d cap [] (v ∷ vs) each = absurd each
all_front d cap (n ∷ names) [] each = absurd each
all_front d cap (n ∷ names) (v ∷ vs) each = (one_front d cap n v each.0, all_front d cap names vs each.1)

front_headline : (ask : Ask) (files : Change FilesState) (out : Change OutState) (kind : AnswerKind) → ask.mode ≡ Frontier
    → Prints kind files (Gains out.0 out.1) ask → HeadlineIn Frontier files out ask
front_headline ask files out kind mode (texts, read, (said, says, gained, written)) =
    let answer : IsFrontAnswer (design_texts texts) ask.net (cap_of ask) kind said = subst (λ (m : Mode). IsAnswerIn m ask texts kind said) mode says in
    record {
      texts = texts;
      read = read;
      design = answer.design;
      design_of = answer.design_of;
      lines = map text_in answer.nets.verdicts;
      each = all_front answer.design (cap_of ask) (nets_for answer.design ask.net) answer.nets.verdicts answer.nets.each;
      printed = subst (λ (text : Bytes). Gains out.0 out.1 text) (answer.nets.text_is ∙ flat_lines answer.nets.verdicts) gained;
    }

-- ---- mode `sta`

sta_lines : (d : Design) (kind : AnswerKind) (text : Bytes) → IsStaSaid d kind text → StaOf d text
sta_lines d kind text (IsStaSaid.told_slacks found of is text_is) = StaOf.timed found of text_is
sta_lines d kind text (IsStaSaid.told_refusal name refusal first is text_is) = StaOf.refused name refusal first text_is
sta_lines d kind text (IsStaSaid.told_cycle name behind is text_is) = StaOf.cycle name behind text_is
sta_lines d kind text (IsStaSaid.told_no_path none is text_is) = StaOf.no_path none text_is

sta_headline : (ask : Ask) (files : Change FilesState) (out : Change OutState) (kind : AnswerKind) → ask.mode ≡ StaMode
    → Prints kind files (Gains out.0 out.1) ask → StaHeadline files.0 out ask
sta_headline ask files out kind mode (texts, read, (said, says, gained, written)) =
    let answer : IsStaAnswer (design_texts texts) kind said = subst (λ (m : Mode). IsAnswerIn m ask texts kind said) mode says in
    record {
      texts = texts;
      read = read;
      design = answer.design;
      design_of = answer.design_of;
      lines = said.text;
      lines_of = sta_lines answer.design kind said.text answer.is_said;
      printed = gained;
    }

-- ---- mode `segment`

module _ (text : Bytes) (net : Option Bytes) (parts : ℕ) (kind : AnswerKind) (said : Said) (some : 0 < parts) (few : parts ≤ 64)
    (answer : IsSegmentAnswer text net parts kind said) where
  abbrev new : Bytes
  new = replaced text answer.index answer.rs

  abbrev cut_names : List Bytes
  cut_names = replaced_names answer.rs

  segmented : IsSegmentedText text new parts cut_names
  segmented = cut_sections_are_read text answer.index parts (nets_in text net) answer.rs answer.index_of some few answer.cut

  -- a net whose section is replaced is fit
  fit_of : (name : Bytes) → Contains cut_names name → (n : ParNet) × IsFit text parts name n
  fit_of name there = replaced_is_fit text answer.index parts answer.rs answer.cut.each name there

  one_segment : (name : Bytes) (v : Verdict) → Contains (nets_in text net) name → IsSegmentSaid text parts name v → SegmentOf text new parts name v.text
  one_segment name v asked (IsSegmentSaid.told_cut n fit is) =
      let cut : IsCutIn text new parts name = segmented.cut name (answer.cut.all name asked n fit) in
      SegmentOf.cut n fit cut (cut_nets_are_no_worse text new parts name some cut) (ap text_in is)
  one_segment name v asked (IsSegmentSaid.told_refusal refusal refused is) =
      SegmentOf.refused refusal refused
      (segmented.kept name (λ there. let (n, fit) = fit_of name there in fit_not_refused text parts name n refusal (few_refusals refusal) fit refused)) (ap text_in is)

  all_segment : (names : List Bytes) (vs : List Verdict) → ((name : Bytes) → Contains names name → Contains (nets_in text net) name)
      → AllZip (IsSegmentSaid text parts) names vs → AllZip (SegmentOf text new parts) names (map text_in vs)
  all_segment [] [] among each = tt
  all_segment [] (v ∷ vs) among each = absurd each
  all_segment (n ∷ names) [] among each = absurd each
  all_segment (n ∷ names) (v ∷ vs) among each = (
    one_segment n v (among n (0, omega arith, refl)) each.0,
    all_segment names vs (λ name (k, low, at). among name (suc k, omega (arith, low), at)) each.1,
  )

  -- a net that is not asked for keeps its section
  not_asked : (name : Bytes) → (Contains (nets_in text net) name → ⊥) → HasSameNet text new name
  not_asked name other = segmented.kept name (λ there. other (All-contains (Contains (nets_in text net)) cut_names name answer.cut.asked there))

segment_headline : (words : List Bytes) (ask : Ask) (files : Change FilesState) (out : Change OutState) (kind : AnswerKind) → ask.mode ≡ SegmentMode
    → IsRequest words ask → Prints kind files (Gains out.0 out.1) ask → SegmentHeadline files out ask
segment_headline words ask files out kind mode is (texts, read, (said, says, gained, written)) =
    let answer : IsSegmentAnswer (texts Spef) ask.net (parts_of ask) kind said = subst (λ (m : Mode). IsAnswerIn m ask texts kind said) mode says in
    let (some, most) = few words ask is mode in
    let new : Bytes = replaced (texts Spef) answer.index answer.rs in
    let held : AreHeld files ask (record { output = Parasitics; text = new } ∷ []) = subst (λ (list : List Written). AreHeld files ask list) answer.files written.whole in
    let whole : IsSegmentedText (texts Spef) new (parts_of ask) (replaced_names answer.rs)
    = segmented (texts Spef) ask.net (parts_of ask) kind said some most answer in
    record {
      texts = texts;
      read = read;
      written = new;
      parasitics = held 0 NO_FILE (omega arith);
      is_spef = (whole.said, whole.file);
      lines = map text_in answer.nets.verdicts;
      each =
          all_segment (texts Spef) ask.net (parts_of ask) kind said some most answer (nets_in (texts Spef) ask.net) answer.nets.verdicts (λ name there. there)
          answer.nets.each;
      others = not_asked (texts Spef) ask.net (parts_of ask) kind said some most answer;
      printed = subst (λ (text : Bytes). Gains out.0 out.1 text) (answer.nets.text_is ∙ flat_lines answer.nets.verdicts) gained;
    }

-- ---- a run

headline_in : (mode : Mode) (words : List Bytes) (ask : Ask) (files : Change FilesState) (out : Change OutState) (kind : AnswerKind) → ask.mode ≡ mode
    → IsRequest words ask → Prints kind files (Gains out.0 out.1) ask → HeadlineIn mode files out ask
headline_in Wire words ask files out kind mode is prints = tt
headline_in Time words ask files out kind mode is prints = tt
headline_in BestMode words ask files out kind mode is prints = best_headline words ask files out is kind mode prints
headline_in Frontier words ask files out kind mode is prints = front_headline ask files out kind mode prints
headline_in Check words ask files out kind mode is prints = tt
headline_in Gen words ask files out kind mode is prints = tt
headline_in StaMode words ask files out kind mode is prints = sta_headline ask files out kind mode prints
headline_in SegmentMode words ask files out kind mode is prints = segment_headline words ask files out kind mode is prints
headline_in RepairMode words ask files out kind mode is prints = repair_headline words ask files out kind mode is prints
headline_in TotalMode words ask files out kind mode is prints = total_headline words ask is files out kind mode prints
headline_in WidthMode words ask files out kind mode is prints = width_headline words ask files out kind mode is prints

module _ (words : List Bytes) {ask : Ask} {files : Change FilesState} {out err : Change OutState} {status : ℕ} (is : IsRequest words ask)
    (run : IsStatusOf ask files out err status) where
  pub run_headline : (status ≡ 0) ⊎ ((status ≡ 1) ⊎ (status ≡ 2)) → Headline files out ask
  run_headline e =
      elim e [
        | inl zero ↦ headline_in ask.mode words ask files out Report refl is (run_printed run Report zero)
        | inr rest ↦ elim rest [
          | inl one ↦ headline_in ask.mode words ask files out NoneGood refl is (run_printed run NoneGood one)
          | inr two ↦ headline_in ask.mode words ask files out Refusal refl is (run_printed run Refusal two)
        ]
      ]

  pub run_certified : (status ≡ 0) ⊎ (status ≡ 1) → Certified files out ask
  run_certified e =
      elim e [
        | inl zero ↦ has_certificate words ask files out is Report (λ same. cc) (run_printed run Report zero)
        | inr one ↦ has_certificate words ask files out is NoneGood (λ same. cc) (run_printed run NoneGood one)
      ]

  pub run_shown : status ≡ 0 → Shown files out ask
  run_shown zero = shown words ask files out is (run_printed run Report zero)
