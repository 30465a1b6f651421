use Rattle.vg_scan.specs.Spans.{words_at}
use Rattle.spef_file.proofs.SpanLemmas.{keeps_same}
use Rattle.spef_file.proofs.lines.take_words.Goals as goal

pub returns-in-Ok-clause-spans : goal.returns-in-Ok-clause-spans
returns-in-Ok-clause-spans c = keeps_same c.args.bytes.now c.args.next c.args.reader.now.count c.take_header_line.new.reader.count c.args.reader.now.nets c.take_header_line.new.reader.nets (words_at c.args.bytes.now c.args.words.now) c.in-Ok.ensures.nets c.in-Ok.ensures.count
