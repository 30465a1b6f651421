-- The resistors at a node, by rising number.
use Rattle.std.specs.Prelude.{◌≡◌, ℕ, ◌+◌, ◌<◌, ◌≤◌, ◌⊎◌, List, length, slice_index, slice_index_or}
use Rattle.rc_tree.specs.Chains.{edge_at}
use Rattle.rc_tree.specs.declared.links.Next.{Next}

abbrev pub IsEndOf : ℕ × ℕ × ℕ → ℕ → Type 0
IsEndOf edge v = (edge.0 ≡ v) ⊎ (edge.1 ≡ v)

-- j is the least number from low on of a resistor at v; where there is none, it is the number of resistors
pub record IsNextAt (edges : List (ℕ × ℕ × ℕ)) (v low j : ℕ) : Type 0 where
  pub from : low ≤ j
  pub within : j ≤ length edges
  pub here : j < length edges → IsEndOf (edge_at edges j) v
  pub none : (k : ℕ) → low ≤ k → k < j → IsEndOf (edge_at edges k) v → ⊥

abbrev pub next_at : List Next → ℕ → Next
next_at next j = slice_index_or next j (record { at_from = 0; at_to = 0 })

-- first has each node's first resistor from low on, next what follows each resistor from low on at its two ends
pub record AreLinksFrom (low n : ℕ) (edges : List (ℕ × ℕ × ℕ)) (first : List ℕ) (next : List Next) : Type 0 where
  pub firsts : (v : ℕ) → v < n → IsNextAt edges v low (slice_index first v)
  pub after_from : (j : ℕ) → low ≤ j → j < length edges
      → IsNextAt edges (edge_at edges j).0 (j + 1) (next_at next j).at_from
  pub after_to : (j : ℕ) → low ≤ j → j < length edges
      → IsNextAt edges (edge_at edges j).1 (j + 1) (next_at next j).at_to

-- one first resistor for each node, and what follows each resistor
pub record AreLinks (edges : List (ℕ × ℕ × ℕ)) (first : List ℕ) (next : List Next) : Type 0 where
  pub one_each : length next ≡ length edges
  pub links : AreLinksFrom 0 (length first) edges first next
