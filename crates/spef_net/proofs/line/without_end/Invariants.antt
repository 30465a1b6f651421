use Rattle.std.proofs.Common.{◌≡◌, ◌+◌, ◌-◌, ◌≤◌, length, take}
use Rattle.std.specs.List.{suffix_len}
use Rattle.spef_net.specs.Lines.{is_space}
use Rattle.spef_net.proofs.line.without_end.Given as goal

abbrev pub invariant-back : goal.invariant-back
invariant-back l = record {
  within : l.end ≤ length l.text;
  left : suffix_len is_space l.text ≡ (length l.text - l.end) + suffix_len is_space (take l.end l.text);
}

abbrev pub decreases-back : goal.decreases-back
decreases-back l = l.end
