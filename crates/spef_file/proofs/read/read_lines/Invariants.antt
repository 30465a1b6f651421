use Rattle.std.proofs.Common.{◌≡◌, ◌≤◌, ◌-◌, drop, length}
use Rattle.vg_scan.specs.Lines.{lines_of, BeginsLine}
use Rattle.spef_file.specs.Machine.{START}
use Rattle.spef_file.specs.Machine.{read}
use Rattle.spef_file.specs.Views.{state_of, IsWhole}
use Rattle.spef_file.specs.NetSpans.{AreSpans}
use Rattle.spef_file.proofs.read.read_lines.Given as goal

abbrev pub invariant-line : goal.invariant-line
invariant-line l = record {
  reads : read START (lines_of l.bytes) ≡ read (state_of l.reader) (lines_of (drop l.at l.bytes));
  rest : lines_of (drop l.at l.bytes) ≡ drop l.reader.count (lines_of l.bytes);
  spans : AreSpans l.bytes (lines_of l.bytes) l.reader.nets;
  whole : IsWhole l.reader;
  begins : BeginsLine l.bytes l.at;
  within : l.at ≤ length l.bytes;
  counted : l.reader.count ≤ l.at;
}

abbrev pub decreases-line : goal.decreases-line
decreases-line l = length l.bytes - l.at
