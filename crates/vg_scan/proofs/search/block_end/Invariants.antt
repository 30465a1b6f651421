use Rattle.std.proofs.Common.{◌≡◌, ◌+◌, ◌-◌, ◌<◌, ◌≤◌, length, drop, get_or}
use Rattle.vg_scan.specs.Comments.{through_block}
use Rattle.vg_scan.proofs.search.block_end.Given as goal

abbrev pub invariant-star : goal.invariant-star
invariant-star l = record {
  within : l.star ≤ length l.text;
  there : l.star < length l.text → get_or l.text l.star 0 ≡ 42;
  place : l.at + through_block (drop l.at l.text) ≡ l.star + through_block (drop l.star l.text);
}

abbrev pub decreases-star : goal.decreases-star
decreases-star l = length l.text - l.star
