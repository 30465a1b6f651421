use Rattle.std.proofs.Common.{arith}
use Rattle.spef_file.proofs.SpanLemmas.{part_skip, first_byte}
use Rattle.spef_file.proofs.lines.start_of.Goals as goal

pub returns-in-Some-clause-starts : goal.returns-in-Some-clause-starts
returns-in-Some-clause-starts c = λ m low high.
    part_skip c.args.bytes.now c.args.line.from c.in-Some.word.from m c.in-Some.ensures.before (omega (arith, c.in-Some.ensures.place)) low high

pub returns-in-Some-clause-word : goal.returns-in-Some-clause-word
returns-in-Some-clause-word c = λ _.
    first_byte c.args.bytes.now _ c.in-Some.word.from c.in-Some.word.to _ c.in-Some.ensures.place.1 c.in-Some.ensures.word
