-- The capacitances of nodes, summed up.
use Rattle.std.specs.Prelude.{◌≡◌, ℕ, ◌<◌, List, length, slice_index}
use Rattle.spef_write.specs.Sections.{total_at}

-- numbers that are the capacitances at so many nodes
pub record AreSums (count : ℕ) (caps : List (ℕ × ℕ)) (sums : List ℕ) : Type 0 where
  pub even : length sums ≡ count
  pub each : (k : ℕ) → k < count → slice_index sums k ≡ total_at caps k
