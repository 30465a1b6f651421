use Rattle.std.proofs.Common.{◌≡◌, ◌≤◌, drop, min}
use Rattle.vg_num.specs.Number.{value_after}
use Rattle.vg_num.proofs.read.capped_value.Given as goal

abbrev pub invariant-loop-byte : goal.invariant-loop-byte
invariant-loop-byte l = record {
  small : l.value ≤ 1000000000000000000000000000000;
  rest : min (value_after l.value (drop l.byte-index l.digits)) 1000000000000000000000000000000 ≡ min (value_after l.front l.digits) 1000000000000000000000000000000;
}
