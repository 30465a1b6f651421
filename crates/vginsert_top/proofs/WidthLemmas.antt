-- What a run promises of a net in mode `width`, from what it prints.
use Rattle.std.proofs.Common.{◌≡◌, ℕ, true, List, [], refl, ap, subst, Option, Some, None}
use Rattle.std.proofs.lemmas.Bool.{false≢true}
use Rattle.std.specs.Prelude.{is_some, unwrap_or}
use Rattle.vg_scan.specs.Lines.{lines_of}
use Rattle.vg_store.specs.Reading.{FilesState}
use Rattle.vg_store.specs.Writing.{OutState, Gains}
use Rattle.vg_words.specs.Laws.{AsksAsIn, AsksForNet}
use Rattle.vg_words.specs.Request.{IsRequest}
use Rattle.vg_words.specs.declared.ask.Ask.{Ask}
use Rattle.vg_words.specs.declared.ask.Mode.{Mode}
use Rattle.vg_words.specs.declared.ask.Mode.TheVariants.{Width as WidthMode}
use Rattle.vg_words.proofs.JudgeLemmas.{one_or_all}
use Rattle.vg_design.specs.Designs.{Design}
use Rattle.vg_design.proofs.AcceptLemmas.{problem_is}
use Rattle.vg_width.proofs.WidthLemmas.{are_widths}
use Rattle.wire_widths.proofs.PlainLemmas.{wide_no_worse}
use Rattle.wire_widths.specs.Widths.{AreWidths}
use Rattle.wire_widths.specs.declared.width.Width.{Width}
use Rattle.vg_answer.specs.Nets.{problem_in}
use Rattle.vg_answer.specs.Verdicts.{Verdict, bare_verdict, text_in}
use Rattle.vg_answer.specs.declared.input.Input.TheVariants.{Widths}
use Rattle.vg_answer.specs.declared.kind.AnswerKind.{AnswerKind}
use Rattle.mode_width.specs.Answers.{IsWidthAnswer, IsWidthSaid}
use Rattle.vg_run.specs.Inputs.{Change}
use Rattle.vg_run.specs.Modes.{IsAnswerIn, design_texts, one_net}
use Rattle.vg_run.specs.Run.{Prints}
use Rattle.vginsert_top.specs.Headline.{WidthHeadline, WidthOf}

abbrev Bytes : Type 0
Bytes = List ℕ

width_lines : (d : Design) (widths : List Width) (name : Bytes) (v : Verdict) → AreWidths widths → IsWidthSaid d widths name v
    → WidthOf d widths name v.text
width_lines d widths name v are (IsWidthSaid.told_best net of fits best wide said_is) =
    WidthOf.widened (problem_in net) (problem_is d name net (problem_in net) of refl refl) fits best wide
    (λ cells x is_best. (wide_no_worse net.problem widths are).slack cells best.placement.cells best.chosen x best.slack is_best wide) (ap text_in said_is)
width_lines d widths name v are (IsWidthSaid.told_none net of fits none said_is) =
    WidthOf.none_good (problem_in net) (problem_is d name net (problem_in net) of refl refl) fits none (ap text_in said_is)
width_lines d widths name v are (IsWidthSaid.told_too_large net of large said_is) =
    WidthOf.too_large (problem_in net) (problem_is d name net (problem_in net) of refl refl) large (ap text_in said_is)
width_lines d widths name v are (IsWidthSaid.told_refusal refusal refused said_is) = WidthOf.refused refusal refused (ap text_in said_is)

-- a net that is named is the one that is asked for
named_net : (net : Option Bytes) → is_some net ≡ true → net ≡ Some (unwrap_or net [])
named_net None e = absurd (false≢true e)
named_net (Some name) e = refl

asks_for_net : (words : List Bytes) (ask : Ask) → IsRequest words ask → ask.mode ≡ WidthMode → AsksForNet ask
asks_for_net words ask is mode = subst (λ (m : Mode). AsksAsIn m ask) mode (one_or_all words ask is)

pub width_headline : (words : List Bytes) (ask : Ask) (files : Change FilesState) (out : Change OutState) (kind : AnswerKind) → ask.mode ≡ WidthMode
    → IsRequest words ask → Prints kind files (Gains out.0 out.1) ask → WidthHeadline files.0 out ask
width_headline words ask files out kind mode is (texts, read, (said, says, gained, written)) =
    let answer : IsWidthAnswer (design_texts texts) (texts Widths) (one_net ask) kind said = subst (λ (m : Mode). IsAnswerIn m ask texts kind said) mode says in
    record {
      texts = texts;
      read = read;
      design = answer.design;
      design_of = answer.design_of;
      widths = answer.widths;
      widths_of = answer.widths_of;
      name = one_net ask;
      named = named_net ask.net (asks_for_net words ask is mode).0;
      lines = said.text;
      lines_of =
          width_lines answer.design answer.widths (one_net ask) (bare_verdict kind said.text)
          (are_widths (lines_of (texts Widths)) answer.widths answer.widths_of) answer.says;
      printed = gained;
    }
