-- Peeling: a net without a lead that is still to come is expanded, and its leads are listed.
use Rattle.std.specs.Prelude.{◌≡◌, ◌≢◌, ℕ, zero, suc, ◌+◌, ◌<◌, ◌≤◌, ◌==◌, ◌&&◌, ◌⊎◌, not, Bool, true, false, List, [], ◌∷◌, ◌++◌, length, slice_index, slice_set, ◌-◌}
use Rattle.std.specs.List.{list_any}
use Rattle.sta_graph.specs.declared.graph.Graph.{Graph}
use Rattle.sta_graph.specs.Paths.{net_count, from_of, to_of}
use Rattle.sta_graph.specs.Orders.{IsAmong, IsLeadOrder, IsLeftNet, IsReadyBy}

-- j is the least number from low on of a lead from net v; where there is none, the number of leads
pub record IsNextFrom (g : Graph) (v low j : ℕ) : Type 0 where
  pub from : low ≤ j
  pub within : j ≤ length g.leads
  pub here : j < length g.leads → from_of g j ≡ v
  pub none : (k : ℕ) → low ≤ k → k < j → from_of g k ≢ v

-- each net's first lead from low on, and what follows each such lead
pub record AreLinksFrom (g : Graph) (low : ℕ) (first next : List ℕ) : Type 0 where
  pub nets : length first ≡ net_count g
  pub leads : length next ≡ length g.leads
  pub firsts : (v : ℕ) → v < net_count g → IsNextFrom g v low (slice_index first v)
  pub nexts : (i : ℕ) → low ≤ i → i < length g.leads → IsNextFrom g (from_of g i) (i + 1) (slice_index next i)

abbrev pub is_listed : List ℕ → ℕ → Bool
is_listed order i = list_any (λ k. k == i) order

abbrev pub one_if : Bool → ℕ
one_if true = 1
one_if false = 0

-- how many of the first m leads go to net v and are not yet done
abbrev pub left_to : (ℕ → ℕ) → (ℕ → Bool) → ℕ → ℕ → ℕ
left_to to done v zero = 0
left_to to done v (suc m) = left_to to done v m + one_if ((to m == v) && not (done m))

-- the nets before place p of ready are expanded, and of the leads of the one there those before the number low are
-- listed
pub record IsPeeling (g : Graph) (order ready counts : List ℕ) (p low : ℕ) : Type 0 where
  pub in_order : IsLeadOrder g order
  pub nets : (q : ℕ) → q < length ready → slice_index ready q < net_count g
  pub apart : (q r : ℕ) → q < r → r < length ready → slice_index ready q ≢ slice_index ready r
  pub free : (q : ℕ) → q < length ready → slice_index counts (slice_index ready q) ≡ 0
  pub all_free : (v : ℕ) → v < net_count g → slice_index counts v ≡ 0 → IsAmong ready (length ready) v
  pub one_each : length counts ≡ net_count g
  pub left : (v : ℕ) → v < net_count g → slice_index counts v ≡ left_to (to_of g) (is_listed order) v (length g.leads)
  pub before : (q i : ℕ) → q < p → q < length ready → i < length g.leads → from_of g i ≡ slice_index ready q
      → IsAmong order (length order) i
  pub now : (i : ℕ) → i < low → p < length ready → i < length g.leads → from_of g i ≡ slice_index ready p
      → IsAmong order (length order) i
  pub only : (k : ℕ) → k < length order
      → ((q : ℕ) × (q < p) × (q < length ready) × (from_of g (slice_index order k) ≡ slice_index ready q))
      ⊎ ((p < length ready) × (from_of g (slice_index order k) ≡ slice_index ready p) × (slice_index order k < low))

-- the nets that are ready, and one more where it is
abbrev pub with_ready : Bool → List ℕ → ℕ → List ℕ
with_ready true ready v = ready ++ (v ∷ [])
with_ready false ready v = ready

-- the nets before number n whose count is 0, each once
pub record AreFree (counts : List ℕ) (n : ℕ) (ready : List ℕ) : Type 0 where
  pub nets : (q : ℕ) → q < length ready → slice_index ready q < n
  pub apart : (q r : ℕ) → q < r → r < length ready → slice_index ready q ≢ slice_index ready r
  pub free : (q : ℕ) → q < length ready → slice_index counts (slice_index ready q) ≡ 0
  pub all_free : (v : ℕ) → v < n → slice_index counts v ≡ 0 → IsAmong ready (length ready) v

-- lead i is the next one from the net at place p
pub record IsExpanding (g : Graph) (order ready counts : List ℕ) (p net i : ℕ) : Type 0 where
  pub so_far : IsPeeling g order ready counts p i
  pub place : p < length ready
  pub net_is : net ≡ slice_index ready p
  pub within : i ≤ length g.leads
  pub from : i < length g.leads → from_of g i ≡ slice_index ready p

-- for each net how many of the first m leads go to it
pub record AreCounts (g : Graph) (m : ℕ) (counts : List ℕ) : Type 0 where
  pub one_each : length counts ≡ net_count g
  pub left : (v : ℕ) → v < net_count g → slice_index counts v ≡ left_to (to_of g) (is_listed []) v m

-- a lead to net v is listed: its count is one less
abbrev pub with_one_less : List ℕ → ℕ → List ℕ
with_one_less counts v = slice_set counts v (slice_index counts v - 1)

-- and the net is ready where it was the last one
abbrev pub with_ready_at : List ℕ → List ℕ → ℕ → List ℕ
with_ready_at counts ready v = with_ready (slice_index counts v == 1) ready v

-- to a net without a count all leads are listed
abbrev pub AreReadyNets : Graph → List ℕ → List ℕ → Type 0
AreReadyNets g order counts = (v : ℕ) → v < net_count g → slice_index counts v ≡ 0 → IsReadyBy g order (length order) v

-- to one with a count some lead is not
abbrev pub AreLeftNets : Graph → List ℕ → List ℕ → Type 0
AreLeftNets g order counts = (v : ℕ) → v < net_count g → 0 < slice_index counts v → IsLeftNet g order v

-- v is the first net with a count
pub record IsFirstCounted (counts : List ℕ) (v : ℕ) : Type 0 where
  pub within : v < length counts
  pub counted : 0 < slice_index counts v
  pub before : (u : ℕ) → u < v → slice_index counts u ≡ 0

-- no net has one
abbrev pub NoneCounted : List ℕ → Type 0
NoneCounted counts = (v : ℕ) → v < length counts → slice_index counts v ≡ 0
