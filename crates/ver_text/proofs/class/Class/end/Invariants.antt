use Rattle.std.proofs.Common.{◌≡◌, ◌+◌, ◌-◌, ◌≤◌, length, drop}
use Rattle.std.specs.List.{prefix_len}
use Rattle.ver_text.specs.Classes.{is_of}
use Rattle.ver_text.proofs.class.Class.end.Given as goal

abbrev pub invariant-run : goal.invariant-run
invariant-run l = record {
  within : l.end ≤ length l.text;
  place : l.from + prefix_len (is_of l.self) (drop l.from l.text) ≡ l.end + prefix_len (is_of l.self) (drop l.end l.text);
}

abbrev pub decreases-run : goal.decreases-run
decreases-run l = length l.text - l.end
