-- Resistors between numbered nodes: neighbours, and chains of resistors. A resistor is two ends and its milliohms.
use Rattle.std.specs.Prelude.{◌≡◌, ℕ, ◌<◌, ◌⊎◌, List, [], ◌∷◌, length, slice_index_or}

-- past the end of the list nothing is read
abbrev pub edge_at : List (ℕ × ℕ × ℕ) → ℕ → ℕ × ℕ × ℕ
edge_at edges j = slice_index_or edges j (0, 0, 0)

-- the resistor joins u and v; its direction says nothing
abbrev pub Joins : ℕ × ℕ × ℕ → ℕ → ℕ → Type 0
Joins edge u v = ((edge.0 ≡ u) × (edge.1 ≡ v)) ⊎ ((edge.0 ≡ v) × (edge.1 ≡ u))

abbrev pub AreNeighbours : List (ℕ × ℕ × ℕ) → ℕ → ℕ → Type 0
AreNeighbours edges u v = (j : ℕ) × (j < length edges) × Joins (edge_at edges j) u v

-- a chain of resistors from u to v: each node after u, the last of which is v, is a neighbour of the one before
abbrev pub IsChain : List (ℕ × ℕ × ℕ) → ℕ → List ℕ → ℕ → Type 0
IsChain edges u [] v = u ≡ v
IsChain edges u (w ∷ path) v = AreNeighbours edges u w × IsChain edges w path v

abbrev pub AreJoined : List (ℕ × ℕ × ℕ) → ℕ → ℕ → Type 0
AreJoined edges u v = (path : List ℕ) × IsChain edges u path v
