-- Leads in an order in which the leads into a net come before those out of it.
use Rattle.std.specs.Prelude.{◌≡◌, ◌≢◌, ℕ, ◌<◌, List, length, slice_index}
use Rattle.sta_graph.specs.declared.graph.Graph.{Graph}
use Rattle.sta_graph.specs.Paths.{from_of, to_of}

-- lead i stands among the first m
abbrev pub IsAmong : List ℕ → ℕ → ℕ → Type 0
IsAmong order m i = (k : ℕ) × (k < m) × (slice_index order k ≡ i)

-- each lead into net v stands among the first m
abbrev pub IsReadyBy : Graph → List ℕ → ℕ → ℕ → Type 0
IsReadyBy g order m v = (i : ℕ) → i < length g.leads → to_of g i ≡ v → IsAmong order m i

-- distinct leads, each after all leads into the net that it comes from
pub record IsLeadOrder (g : Graph) (order : List ℕ) : Type 0 where
  pub within : (k : ℕ) → k < length order → slice_index order k < length g.leads
  pub once : (h k : ℕ) → h < k → k < length order → slice_index order h ≢ slice_index order k
  pub ready : (k : ℕ) → k < length order → IsReadyBy g order k (from_of g (slice_index order k))

-- lead i is not listed
abbrev pub IsLeft : List ℕ → ℕ → Type 0
IsLeft order i = IsAmong order (length order) i → ⊥

-- a net into which a lead goes that is not listed
pub record IsLeftNet (g : Graph) (order : List ℕ) (v : ℕ) : Type 0 where
  pub lead : ℕ
  pub number : lead < length g.leads
  pub to : to_of g lead ≡ v
  pub left : IsLeft order lead

-- no lead can be added: a lead that is not listed comes from a net into which such a lead goes
pub record IsPeeled (g : Graph) (order : List ℕ) : Type 0 where
  pub in_order : IsLeadOrder g order
  pub stops : (i : ℕ) → i < length g.leads → IsLeft order i → IsLeftNet g order (from_of g i)

-- all leads are listed
pub record IsWholeOrder (g : Graph) (order : List ℕ) : Type 0 where
  pub in_order : IsLeadOrder g order
  pub all : (i : ℕ) → i < length g.leads → IsAmong order (length order) i
