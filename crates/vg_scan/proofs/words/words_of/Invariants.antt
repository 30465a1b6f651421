use Rattle.std.proofs.Common.{◌≡◌, ◌≤◌, ◌<◌, ◌++◌, ◌-◌, drop, length, get_or, true}
use Rattle.vg_scan.specs.Lines.{is_ink, words}
use Rattle.vg_scan.specs.Spans.{part_at, words_at}
use Rattle.vg_scan.proofs.words.words_of.Given as goal

abbrev pub invariant-word : goal.invariant-word
invariant-word l = record {
  found : words_at l.bytes l.found.items ++ words (drop l.from (part_at l.bytes l.line)) ≡ words (part_at l.bytes l.line);
  within : l.from ≤ length (part_at l.bytes l.line);
  ink : l.from < length (part_at l.bytes l.line) → is_ink (get_or (part_at l.bytes l.line) l.from 0) ≡ true;
}

abbrev pub decreases-word : goal.decreases-word
decreases-word l = length (part_at l.bytes l.line) - l.from
