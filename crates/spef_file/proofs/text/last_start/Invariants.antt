use Rattle.std.proofs.Common.{◌≡◌, ◌+◌, ◌<◌, ◌≤◌, ℕ, length, get_or}
use Rattle.spef_file.proofs.text.last_start.Given as goal

abbrev pub invariant-back : goal.invariant-back
invariant-back l = record {
  last : (k : ℕ) → l.at ≤ k → k + 1 < length l.text → get_or l.text k 0 ≡ 10 → ⊥;
  within : l.at < length l.text;
}

abbrev pub decreases-back : goal.decreases-back
decreases-back l = l.at
