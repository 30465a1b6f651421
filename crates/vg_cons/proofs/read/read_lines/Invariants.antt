use Rattle.std.proofs.Common.{◌≡◌, ◌≤◌, ◌-◌, is_some, drop, take, length}
use Rattle.std.specs.List.{list_any}
use Rattle.vg_cons.specs.Lines.{lines_of, has_words}
use Rattle.vg_cons.specs.Rows.{rows_of}
use Rattle.vg_scan.specs.Faults.{IsClear}
use Rattle.vg_cons.specs.Faults.{fault_at}
use Rattle.vg_cons.proofs.read.read_lines.Given as goal

abbrev pub invariant-line : goal.invariant-line
invariant-line l = record {
  rest : lines_of (drop l.at l.bytes) ≡ drop l.count (lines_of l.bytes);
  within : l.at ≤ length l.bytes;
  counted : l.count ≤ l.at;
  few : l.count ≤ length (lines_of l.bytes);
  started : is_some l.cons.format ≡ list_any has_words (take l.count (lines_of l.bytes));
  clear : IsClear (fault_at (lines_of l.bytes)) l.count;
  rows : l.cons ≡ rows_of (take l.count (lines_of l.bytes));
}

abbrev pub decreases-line : goal.decreases-line
decreases-line l = length l.bytes - l.at
