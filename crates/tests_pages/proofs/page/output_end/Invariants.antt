use Rattle.std.proofs.Common.{◌≤◌, ◌-◌, length}
use Rattle.tests_pages.proofs.page.output_end.Given as goal

abbrev pub invariant-line : goal.invariant-line
invariant-line l = record {
  after : l.fn.from ≤ l.at;
  within : l.at ≤ length l.page;
}

abbrev pub decreases-line : goal.decreases-line
decreases-line l = length l.page - l.at
