use Rattle.std.proofs.Common.{drop, refl, subst, Err, List, ℕ}
use Rattle.vg_scan.specs.Lines.{lines_of}
use Rattle.vg_scan.specs.Spans.{words_at}
use Rattle.spef_file.specs.Views.{state_of, IsHeadName}
use Rattle.spef_file.proofs.StepLemmas.{unknown_fails}
use Rattle.spef_file.proofs.lines.take_net.Goals as goal

pub returns-in-Err-clause-goes : goal.returns-in-Err-clause-goes
returns-in-Err-clause-goes c =
    unknown_fails (state_of c.args.reader.now) (words_at c.args.bytes.now c.args.words.now) (lines_of (drop c.args.next c.args.bytes.now)) c.head_name.new.name.items c.in-Err.kind refl c.requires.headed c.requires.opens
    (subst (λ (word : List ℕ). IsHeadName c.args.reader.now.heading.chars c.args.reader.now.map word c.head_name.new.name.items (Err c.in-Err.kind)) c.second_word-word.ensures c.in-Err.ensures)
