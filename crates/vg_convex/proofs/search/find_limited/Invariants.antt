use Rattle.std.proofs.Common.{ℕ, ◌<◌, slice_index}
use Rattle.vg_convex.specs.Answers.{IsAnswer, found_at, IsRow}
use Rattle.vg_convex.proofs.Walks.{IsFinding}
use Rattle.vg_convex.proofs.search.find_limited.Given as goal

abbrev pub ghost-find_next : goal.ghost-find_next
ghost-find_next g a = g.xs

abbrev pub invariant-reps : goal.invariant-reps
invariant-reps g l = record {
  walk : IsFinding l.pool g.xs l.reps l.order l.number-index l.work.stack.items l.next l.fn.steps l.steps;
  row : IsRow l.allowed l.reps l.work.found.items;
  answers : (i : ℕ) → i < l.number-index → IsAnswer l.allowed l.reps g.xs (slice_index l.order i) (found_at l.work.found.items (slice_index l.order i));
}
