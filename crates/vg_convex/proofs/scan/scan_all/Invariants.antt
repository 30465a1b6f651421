use Rattle.std.proofs.Common.{ℕ, ◌+◌, ◌*◌, ◌<◌, ◌≤◌, length}
use Rattle.vg_convex.specs.Answers.{IsAnswer, found_at, IsRow}
use Rattle.vg_convex.proofs.scan.scan_all.Given as goal

abbrev pub ghost-scan_next : goal.ghost-scan_next
ghost-scan_next g a = g.xs

abbrev pub invariant-reps : goal.invariant-reps
invariant-reps g l = record {
  row : IsRow l.allowed l.reps l.work.found.items;
  answers : (b : ℕ) → b < l.number → IsAnswer l.allowed l.reps g.xs b (found_at l.work.found.items b);
  cost : l.steps ≤ l.fn.steps + l.number * length g.xs;
}
