use Rattle.std.proofs.Common.{◌≡◌, ◌+◌, ◌-◌, ◌≤◌, length, take}
use Rattle.std.specs.List.{suffix_len}
use Rattle.vg_scan.specs.Lines.{is_blank}
use Rattle.lib_text.proofs.arguments.without_end.Given as goal

abbrev pub invariant-back : goal.invariant-back
invariant-back l = record {
  within : l.end ≤ length l.text;
  left : suffix_len is_blank l.text ≡ (length l.text - l.end) + suffix_len is_blank (take l.end l.text);
}

abbrev pub decreases-back : goal.decreases-back
decreases-back l = l.end
