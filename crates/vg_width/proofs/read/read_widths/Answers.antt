use Rattle.vg_scan.specs.Lines.{lines_of}
use Rattle.vg_width.proofs.WidthLemmas.{are_widths}
use Rattle.vg_width.proofs.read.read_widths.Goals as goal

pub invariant_of-result : goal.invariant_of-result
invariant_of-result c = record { are = are_widths (lines_of c.args.bytes.now) c.from_vec.result (rw c.from_vec.ensures c.in_ok-read_rows.ensures.widths) }
