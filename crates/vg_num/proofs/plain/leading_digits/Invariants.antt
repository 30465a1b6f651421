use Rattle.std.proofs.Common.{◌≡◌, ◌-◌, ◌≤◌, true, take, length}
use Rattle.std.specs.List.{list_all}
use Rattle.vg_num.specs.Number.{is_digit, value_after}
use Rattle.vg_num.proofs.plain.leading_digits.Given as goal

abbrev pub invariant-digit : goal.invariant-digit
invariant-digit l = record {
  value : l.value ≡ value_after l.front (take l.count l.text);
  digits : list_all is_digit (take l.count l.text) ≡ true;
  within : l.count ≤ length l.text;
  small : l.value ≤ 1000000000000000000;
}

abbrev pub decreases-digit : goal.decreases-digit
decreases-digit l = length l.text - l.count
