use Rattle.std.proofs.Common.{◌≡◌, true, sym, ◌∙◌, refl, ap, ◌+◌}
use Rattle.spef_file.specs.Machine.{read}
use Rattle.vg_scan.specs.Spans.{words_at, part_at}
use Rattle.spef_file.specs.Words.{has_words}
use Rattle.spef_file.specs.Views.{state_of}
use Rattle.spef_file.proofs.LineWordsLemmas.{no_words, some_words}
use Rattle.spef_file.proofs.StepLemmas.{empty_passes, outside_fails, passed_passes, row_passes, row_fails}
use Rattle.spef_file.proofs.lines.take_other_line.Goals as goal

pub returns-then-is_empty-clause-passes : goal.returns-then-is_empty-clause-passes
returns-then-is_empty-clause-passes c = λ later.
    empty_passes (state_of c.args.reader.now) (words_at c.args.bytes.now c.args.words.now) later refl c.requires.headed (no_words (part_at c.args.bytes.now) c.args.words.now (sym c.is_empty.ensures ∙ c.if-is_empty.true))

pub returns-in-Outside-clause-passes : goal.returns-in-Outside-clause-passes
returns-in-Outside-clause-passes c = λ later.
    let some : has_words (words_at c.args.bytes.now c.args.words.now) ≡ true = some_words (part_at c.args.bytes.now) c.args.words.now (sym c.is_empty.ensures ∙ c.if-is_empty.false) in
    outside_fails (state_of c.args.reader.now) (words_at c.args.bytes.now c.args.words.now) later refl c.requires.headed c.requires.opens some c.in-Outside.is

pub returns-in-InPassed-clause-passes : goal.returns-in-InPassed-clause-passes
returns-in-InPassed-clause-passes c = λ later.
    let some : has_words (words_at c.args.bytes.now c.args.words.now) ≡ true = some_words (part_at c.args.bytes.now) c.args.words.now (sym c.is_empty.ensures ∙ c.if-is_empty.false) in
    passed_passes (state_of c.args.reader.now) (words_at c.args.bytes.now c.args.words.now) later refl c.requires.headed c.requires.opens some c.in-InPassed.is

pub returns-in-Err-clause-passes : goal.returns-in-Err-clause-passes
returns-in-Err-clause-passes c = λ later.
    let some : has_words (words_at c.args.bytes.now c.args.words.now) ≡ true = some_words (part_at c.args.bytes.now) c.args.words.now (sym c.is_empty.ensures ∙ c.if-is_empty.false) in
    row_fails (state_of c.args.reader.now) (words_at c.args.bytes.now c.args.words.now) later c.in-Err.kind refl c.requires.headed c.requires.opens some c.in-InMap.is c.in-Err.ensures

pub returns-in-Ok-clause-passes : goal.returns-in-Ok-clause-passes
returns-in-Ok-clause-passes c = λ later.
    let some : has_words (words_at c.args.bytes.now c.args.words.now) ≡ true = some_words (part_at c.args.bytes.now) c.args.words.now (sym c.is_empty.ensures ∙ c.if-is_empty.false) in
    let (row, is, clear, rows) = c.in-Ok.ensures in
    row_passes (state_of c.args.reader.now) (words_at c.args.bytes.now c.args.words.now) later row refl c.requires.headed c.requires.opens some c.in-InMap.is is clear
    ∙ ap (λ names. read (record (state_of c.args.reader.now) { count = c.args.reader.now.count + 1; names = names }) later) (sym rows)
