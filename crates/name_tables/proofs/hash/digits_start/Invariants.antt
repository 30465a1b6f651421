use Rattle.std.proofs.Common.{◌≡◌, ◌+◌, ◌-◌, ◌≤◌, length, take}
use Rattle.std.specs.List.{suffix_len}
use Rattle.vg_num.specs.Number.{is_digit}
use Rattle.name_tables.proofs.hash.digits_start.Given as goal

abbrev pub invariant-digit : goal.invariant-digit
invariant-digit l = record {
  within : l.start ≤ length l.text;
  left : suffix_len is_digit l.text ≡ (length l.text - l.start) + suffix_len is_digit (take l.start l.text);
}

abbrev pub decreases-digit : goal.decreases-digit
decreases-digit l = l.start
