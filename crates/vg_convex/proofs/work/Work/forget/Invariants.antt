use Rattle.std.proofs.Common.{◌≡◌, ◌<◌, ℕ, length, None}
use Rattle.vg_convex.specs.Answers.{found_at}
use Rattle.vg_convex.proofs.work.Work.forget.Given as goal

abbrev pub invariant-results : goal.invariant-results
invariant-results l = record {
  stack : l.self.stack.items ≡ l.fn.self.stack.items;
  rows : length l.self.found.items ≡ length l.fn.self.found.items;
  found : (b : ℕ) → b < l.at → found_at l.self.found.items b ≡ None;
}
