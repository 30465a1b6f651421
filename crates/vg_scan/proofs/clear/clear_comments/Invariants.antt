use Rattle.std.proofs.Common.{◌≡◌, ◌-◌, ◌++◌, ◌≤◌, length, take, drop}
use Rattle.vg_scan.specs.Comments.{without_comments}
use Rattle.vg_scan.proofs.clear.clear_comments.Given as goal

abbrev pub invariant-comment : goal.invariant-comment
invariant-comment l = record {
  cleared : take l.at l.text ++ without_comments l.kind (drop l.at l.text) ≡ without_comments l.kind l.initial.text;
  long : length l.text ≡ length l.initial.text;
  within : l.at ≤ length l.text;
}

abbrev pub decreases-comment : goal.decreases-comment
decreases-comment l = length l.initial.text - l.at
