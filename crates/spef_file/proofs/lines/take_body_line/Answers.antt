use Rattle.std.proofs.Common.{drop, ◌+◌, sym, ◌∙◌, refl, ap}
use Rattle.vg_scan.specs.Lines.{lines_of}
use Rattle.vg_scan.specs.Spans.{words_at}
use Rattle.spef_file.specs.declared.fault.SpefKind.TheVariants.{Unsupported}
use Rattle.spef_file.specs.declared.keyword.Keyword.TheVariants.{Map, Passed, Foreign}
use Rattle.spef_file.specs.Keywords.{keyword_of}
use Rattle.spef_file.specs.Views.{state_of}
use Rattle.spef_file.proofs.StepLemmas.{body_passes, body_fails}
use Rattle.spef_file.proofs.SpanLemmas.{keeps_same}
use Rattle.spef_file.proofs.lines.take_body_line.Goals as goal

pub returns-in-Map-clause-goes : goal.returns-in-Map-clause-goes
returns-in-Map-clause-goes c =
    body_passes (state_of c.args.reader.now) _ (words_at c.args.bytes.now c.args.words.now) (lines_of (drop c.args.next c.args.bytes.now)) Map refl c.requires.headed
    (ap keyword_of (sym c.first_word.ensures) ∙ sym c.keyword_of.ensures ∙ c.in-Map.is) refl refl

pub returns-in-Passed-clause-goes : goal.returns-in-Passed-clause-goes
returns-in-Passed-clause-goes c =
    body_passes (state_of c.args.reader.now) _ (words_at c.args.bytes.now c.args.words.now) (lines_of (drop c.args.next c.args.bytes.now)) Passed refl c.requires.headed
    (ap keyword_of (sym c.first_word.ensures) ∙ sym c.keyword_of.ensures ∙ c.in-Passed.is) refl refl

pub returns-in-Foreign-clause-goes : goal.returns-in-Foreign-clause-goes
returns-in-Foreign-clause-goes c =
    body_fails (state_of c.args.reader.now) (words_at c.args.bytes.now c.args.words.now) (lines_of (drop c.args.next c.args.bytes.now)) Foreign Unsupported refl c.requires.headed
    (ap keyword_of (sym c.first_word.ensures) ∙ sym c.keyword_of.ensures ∙ c.in-Foreign.is) refl

pub returns-in-Map-clause-spans : goal.returns-in-Map-clause-spans
returns-in-Map-clause-spans c = keeps_same c.args.bytes.now c.args.next c.args.reader.now.count (c.args.reader.now.count + 1) c.args.reader.now.nets c.args.reader.now.nets (words_at c.args.bytes.now c.args.words.now) refl refl

pub returns-in-Passed-clause-spans : goal.returns-in-Passed-clause-spans
returns-in-Passed-clause-spans c = keeps_same c.args.bytes.now c.args.next c.args.reader.now.count (c.args.reader.now.count + 1) c.args.reader.now.nets c.args.reader.now.nets (words_at c.args.bytes.now c.args.words.now) refl refl

pub returns-in-Ok-clause-spans : goal.returns-in-Ok-clause-spans
returns-in-Ok-clause-spans c = keeps_same c.args.bytes.now c.args.next c.args.reader.now.count c.take_other_line.new.reader.count c.args.reader.now.nets c.take_other_line.new.reader.nets (words_at c.args.bytes.now c.args.words.now) c.in-Ok.ensures.nets c.in-Ok.ensures.count
