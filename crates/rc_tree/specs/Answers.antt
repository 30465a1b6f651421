-- A net as a tree, breadth first: nodes are scanned in tree order, beginning with the root, and the new neighbours of
-- each are taken in the order of the resistors.
use Rattle.std.specs.Prelude.{◌≡◌, ◌≢◌, ℕ, ◌+◌, ◌<◌, ◌⊎◌, List, length, slice_index}
use Rattle.elmore.specs.Trees.{IsTree, parent_of, resistance, capacitance}
use Rattle.elmore.specs.declared.tree.Node.{Node}
use Rattle.rc_tree.specs.Chains.{edge_at, Joins}
use Rattle.rc_tree.specs.Nets.{capacitance_at}
use Rattle.rc_tree.specs.Faults.{NoneFloats}

-- order lists the nodes 0 to n - 1, each once
pub record ListsAll (n : ℕ) (order : List ℕ) : Type 0 where
  pub count : length order ≡ n
  pub within : (i : ℕ) → i < n → slice_index order i < n
  pub once : (i k : ℕ) → i < k → k < n → slice_index order i ≢ slice_index order k
  pub each : (v : ℕ) → v < n → (i : ℕ) × (i < n) × (slice_index order i ≡ v)

-- the resistor j joins tree node i to its parent
pub record IsWire (edges : List (ℕ × ℕ × ℕ)) (tree : List Node) (order : List ℕ) (i j : ℕ) : Type 0 where
  pub number : j < length edges
  pub joins : Joins (edge_at edges j) (slice_index order (parent_of tree i)) (slice_index order i)
  pub r : resistance tree i ≡ (edge_at edges j).2

-- tree node i's parent comes before that of k, or is the same and i's wire has the smaller number
abbrev pub ComesBefore : List Node → List ℕ → ℕ → ℕ → Type 0
ComesBefore tree wires i k =
    (parent_of tree i < parent_of tree k)
    ⊎ ((parent_of tree i ≡ parent_of tree k) × (slice_index wires i < slice_index wires k))

-- wires has for each tree node below the root the number of the resistor to its parent
pub record AreWires (edges : List (ℕ × ℕ × ℕ)) (tree : List Node) (order wires : List ℕ) : Type 0 where
  pub wire : (i : ℕ) → 0 < i → i < length tree → IsWire edges tree order i (slice_index wires i)
  pub once : (i k : ℕ) → 0 < i → i < k → k < length tree → slice_index wires i ≢ slice_index wires k
  pub each : (j : ℕ) → j < length edges → (i : ℕ) × (0 < i) × (i < length tree) × (slice_index wires i ≡ j)
  pub breadth_first : (i k : ℕ) → 0 < i → i < k → k < length tree → ComesBefore tree wires i k

-- tree node i is the node order[i] of the net
pub record IsTreeOf (n root : ℕ) (caps : List (ℕ × ℕ)) (edges : List (ℕ × ℕ × ℕ)) (tree : List Node)
    (order : List ℕ) : Type 0 where
  pub count : length tree ≡ n
  pub a_tree : IsTree tree
  pub lists : ListsAll n order
  pub begins : slice_index order 0 ≡ root
  pub wires : (wires : List ℕ) × AreWires edges tree order wires
  pub capacitances : (i : ℕ) → i < n → capacitance tree i ≡ capacitance_at caps (slice_index order i)
  pub joined : NoneFloats n edges root
  pub no_loop : length edges + 1 ≡ n
