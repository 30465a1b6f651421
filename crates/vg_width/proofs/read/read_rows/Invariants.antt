use Rattle.std.proofs.Common.{◌≡◌, ◌≤◌, ◌-◌, drop, length}
use Rattle.vg_scan.specs.Lines.{lines_of}
use Rattle.vg_width.proofs.TextLemmas.{AreTaken}
use Rattle.vg_width.proofs.read.read_rows.Given as goal

abbrev pub invariant-line : goal.invariant-line
invariant-line l = record {
  rest : lines_of (drop l.at l.bytes) ≡ drop (length l.rows.items) (lines_of (drop l.start l.bytes));
  within : l.at ≤ length l.bytes;
  taken : AreTaken (lines_of (drop l.start l.bytes)) l.rows.items;
}

abbrev pub decreases-line : goal.decreases-line
decreases-line l = length l.bytes - l.at
