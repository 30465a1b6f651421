use Rattle.vg_scan.proofs.CutLemmas.{before_rest}
use Rattle.vg_scan.proofs.lines.next_line.Goals as goal

pub returns-clause-begins : goal.returns-clause-begins
returns-clause-begins c = λ _ l. before_rest c.args.bytes.now c.args.at c.line_lengths-length.result.1 c.line_lengths-length.ensures.place.1 l c.line_lengths-length.ensures.newline
