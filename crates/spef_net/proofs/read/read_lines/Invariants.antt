use Rattle.std.proofs.Common.{◌≡◌, ◌≤◌, ◌-◌, drop, take, length}
use Rattle.std.specs.Str.Lines.{lines}
use Rattle.spef_net.specs.Statements.{statements, statements_from}
use Rattle.spef_net.specs.Rows.{connected_of}
use Rattle.vg_scan.specs.Faults.{IsClear}
use Rattle.spef_net.specs.Faults.{fault_at}
use Rattle.spef_net.specs.Builders.{IsPartialNet}
use Rattle.spef_net.proofs.read.read_lines.Given as goal

abbrev pub invariant-line : goal.invariant-line
invariant-line l = record {
  within : l.at ≤ length l.bytes;
  counted : l.count ≤ l.at;
  rest : statements_from l.fn.nodes.file l.part (lines (drop l.at l.bytes)) ≡ drop l.count (statements l.fn.nodes.file (lines l.bytes));
  clear : IsClear (fault_at l.fn.nodes.net (statements l.fn.nodes.file (lines l.bytes))) l.count;
  file : l.builder.file ≡ l.fn.nodes.file;
  net : l.builder.net ≡ l.fn.nodes.net;
  partial : IsPartialNet (connected_of (statements l.fn.nodes.file (lines l.bytes))) l.fn.nodes.net (take l.count (statements l.fn.nodes.file (lines l.bytes))) l.builder;
}

abbrev pub decreases-line : goal.decreases-line
decreases-line l = length l.bytes - l.at
