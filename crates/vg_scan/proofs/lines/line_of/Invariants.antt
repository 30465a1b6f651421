use Rattle.std.proofs.Common.{◌≡◌, ◌+◌, take}
use Rattle.std.specs.List.{count_by}
use Rattle.vg_scan.specs.Lines.{is_newline}
use Rattle.vg_scan.proofs.lines.line_of.Given as goal

abbrev pub invariant-loop-byte : goal.invariant-loop-byte
invariant-loop-byte l = l.count ≡ count_by is_newline (take l.byte-index l.front) + 1
