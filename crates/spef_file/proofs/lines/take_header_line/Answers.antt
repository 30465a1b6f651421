use Rattle.std.proofs.Common.{sym, ◌∙◌, refl}
use Rattle.vg_scan.specs.Spans.{words_at}
use Rattle.spef_file.specs.Views.{state_of}
use Rattle.spef_file.proofs.StepLemmas.{header_idle, header_passes, header_fails}
use Rattle.spef_file.proofs.lines.take_header_line.Goals as goal

pub returns-then-is_idle-clause-passes : goal.returns-then-is_idle-clause-passes
returns-then-is_idle-clause-passes c = λ later.
    header_idle (state_of c.args.reader.now) (words_at c.args.bytes.now c.args.words.now) later refl c.requires.headed (sym c.is_idle.ensures ∙ c.if-is_idle.true)

pub returns-in-Err-clause-passes : goal.returns-in-Err-clause-passes
returns-in-Err-clause-passes c = λ later.
    header_fails (state_of c.args.reader.now) (words_at c.args.bytes.now c.args.words.now) later c.in-Err.kind refl c.requires.headed (sym c.is_idle.ensures ∙ c.if-is_idle.false) (sym c.header_line.ensures.heading ∙ c.in-Err.is)

pub returns-in-Ok-clause-passes : goal.returns-in-Ok-clause-passes
returns-in-Ok-clause-passes c = λ later.
    header_passes (state_of c.args.reader.now) (words_at c.args.bytes.now c.args.words.now) later c.in-Ok.heading refl c.requires.headed (sym c.is_idle.ensures ∙ c.if-is_idle.false) (sym c.header_line.ensures.heading ∙ c.in-Ok.is)
