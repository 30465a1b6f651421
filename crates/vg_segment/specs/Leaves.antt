-- The least free leaves of a net, by marks of the numbers that are taken.
use Rattle.std.specs.Prelude.{◌≡◌, ◌≢◌, ℕ, ◌+◌, ◌<◌, ◌≤◌, Bool, true, false, List, length, take, slice_index_or}
use Rattle.std.specs.List.{All, AllPairs, Contains, count_by}
use Rattle.spef_nodes.specs.Nodes.{ParNode}
use Rattle.vg_segment.specs.Segments.{node_of}

-- how many marks are set
abbrev pub set_marks : List Bool → ℕ
set_marks marks = count_by (λ mark. mark) marks

-- none of these nodes has this leaf in the net of a name
abbrev pub IsFreeAmong : List ℕ → List ParNode → ℕ → Type 0
IsFreeAmong net nodes leaf = All (λ (node : ParNode). node.name ≢ node_of net leaf) nodes

-- of the numbers up to `last`, just 0 and those that are leaves of the nodes are marked
pub record AreMarked (net : List ℕ) (nodes : List ParNode) (last : ℕ) (marks : List Bool) : Type 0 where
  pub size : length marks ≡ last + 1
  pub start : slice_index_or marks 0 false ≡ true
  pub taken : (k : ℕ) → 0 < k → slice_index_or marks k false ≡ true → IsFreeAmong net nodes k → ⊥
  pub free : (k : ℕ) → 0 < k → slice_index_or marks k true ≡ false → IsFreeAmong net nodes k
  pub few : set_marks marks ≤ length nodes + 1

-- the numbers without a mark below k, in order, and at most `count`
pub record AreUnmarkedBelow (marks : List Bool) (count k : ℕ) (leaves : List ℕ) : Type 0 where
  pub rise : AllPairs (λ a b. a < b) leaves
  pub unmarked : All (λ leaf. (leaf < k) × (slice_index_or marks leaf true ≡ false)) leaves
  pub all : (leaf : ℕ) → leaf < k → slice_index_or marks leaf true ≡ false → Contains leaves leaf
  pub few : length leaves ≤ count
  pub many : k ≤ length leaves + set_marks (take k marks)

-- the first `count` numbers without a mark, in order
pub record AreLeastUnmarked (marks : List Bool) (count : ℕ) (leaves : List ℕ) : Type 0 where
  pub count_is : length leaves ≡ count
  pub rise : AllPairs (λ a b. a < b) leaves
  pub unmarked : All (λ leaf. slice_index_or marks leaf true ≡ false) leaves
  pub least : (leaf : ℕ) → slice_index_or marks leaf true ≡ false → (last : ℕ) → Contains leaves last → leaf < last
      → Contains leaves leaf
