use Rattle.std.proofs.Common.{◌≡◌, ◌++◌, ◌≤◌, ◌-◌, map, drop, length}
use Rattle.vg_scan.specs.Lines.{lines_of}
use Rattle.tests_pages.specs.Manual.{listed, listed_from}
use Rattle.tests_pages.proofs.manual.listed.Given as goal

abbrev pub invariant-line : goal.invariant-line
invariant-line l = record {
  within : l.at ≤ length l.page;
  more : listed l.fn.page ≡ map (λ option. option.now) l.found.items ++ listed_from l.is_open (lines_of (drop l.at l.page));
}

abbrev pub decreases-line : goal.decreases-line
decreases-line l = length l.page - l.at
