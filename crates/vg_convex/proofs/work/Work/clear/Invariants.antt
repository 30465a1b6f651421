use Rattle.std.proofs.Common.{◌≡◌, ℕ, [], length, None}
use Rattle.elmore.specs.Allowances.{Allows}
use Rattle.vg_convex.specs.Answers.{found_at}
use Rattle.vg_convex.proofs.work.Work.clear.Given as goal

abbrev pub invariant-results : goal.invariant-results
invariant-results l = record {
  stack : l.self.stack.items ≡ [];
  rows : length l.self.found.items ≡ l.counter;
  none : (b : ℕ) → (Allows l.allowed b → ⊥) → found_at l.self.found.items b ≡ None;
}
