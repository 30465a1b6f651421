use Rattle.std.proofs.Common.{◌≡◌, ◌≤◌, ◌-◌, ◌+◌, drop, length, ℕ, take, ◌++◌}
use Rattle.vg_scan.specs.Lines.{lines_of, part}
use Rattle.spef_file.specs.Nets.{end_at}
use Rattle.spef_file.proofs.EndLemmas.{later_by}
use Rattle.spef_file.proofs.net_end.find_end.Given as goal

abbrev pub invariant-line : goal.invariant-line
invariant-line l = record {
  ends : end_at (lines_of (drop l.fn.from l.bytes)) ≡ later_by l.lines (end_at (lines_of (drop l.at l.bytes)));
  rest : lines_of (drop l.at l.bytes) ≡ drop l.lines (lines_of (drop l.fn.from l.bytes));
  parts : (m : ℕ) → l.at ≤ m → lines_of (part l.bytes l.fn.from m) ≡ take l.lines (lines_of (drop l.fn.from l.bytes)) ++ lines_of (part l.bytes l.at m);
  within : l.at ≤ length l.bytes;
  counted : l.fn.from + l.lines ≤ l.at;
}

abbrev pub decreases-line : goal.decreases-line
decreases-line l = length l.bytes - l.at
