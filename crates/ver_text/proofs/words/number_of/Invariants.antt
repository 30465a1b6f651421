use Rattle.std.proofs.Common.{◌≡◌, ◌≤◌, drop, min}
use Rattle.vg_num.specs.Number.{value_after, value_of}
use Rattle.ver_text.proofs.words.number_of.Given as goal

abbrev pub invariant-digit : goal.invariant-digit
invariant-digit l = record {
  small : l.value ≤ 1048577;
  rest : min (value_after l.value (drop l.digit-index l.digits)) 1048577 ≡ min (value_of l.digits) 1048577;
}
