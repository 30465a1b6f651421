use Rattle.std.proofs.Common.{◌≤◌, ◌-◌, length}
use Rattle.std.specs.List.{All}
use Rattle.vg_scan.specs.Spans.{IsIn}
use Rattle.tests_pages.proofs.page.runs_of.Given as goal

abbrev pub invariant-line : goal.invariant-line
invariant-line l = record {
  within : l.at ≤ length l.page;
  counted : l.count ≤ l.at;
  words : All (λ shown. IsIn l.page shown.words) l.runs.items;
  output : All (λ shown. IsIn l.page shown.output) l.runs.items;
}

abbrev pub decreases-line : goal.decreases-line
decreases-line l = length l.page - l.at
