-- A net whose resistors are divided into equal parts, as numbered nodes, capacitors and resistors: each resistor becomes
-- a chain of resistors over new nodes.
use Rattle.std.specs.Prelude.{◌≡◌, ◌≢◌, ◌⊎◌, ℕ, ◌+◌, ◌-◌, ◌*◌, ◌/◌, ◌%◌, ◌<◌, ◌==◌, cond, ltb, List, length, slice_index}
use Rattle.elmore.specs.declared.tree.Node.{Node}
use Rattle.rc_tree.specs.Chains.{edge_at}
use Rattle.rc_tree.specs.Nets.{capacitance_at}
use Rattle.cut_laws.specs.PieceNets.{NumberedNet, IsTreeOfNet, IsRenumbered}
use Rattle.divided_laws.specs.DividedTrees.{Chains, IsDivided}

-- part i of a resistor of r mΩ in so many parts: the first ones have one more, where it does not divide
abbrev pub part_of : ℕ → ℕ → ℕ → ℕ
part_of parts r i = r / parts + cond (ltb i (r % parts)) 1 0

-- node i of the chain of the resistor j, where `to k` is the new number of the node k, and `fresh j i` that of the new
-- node i of the resistor j: its first node, the new nodes 1 to parts - 1, its second node
abbrev pub link : ℕ → (ℕ → ℕ) → (ℕ → ℕ → ℕ) → List (ℕ × ℕ × ℕ) → ℕ → ℕ → ℕ
link parts to fresh edges j i =
    cond (i == 0) (to (edge_at edges j).0) (cond (i == parts) (to (edge_at edges j).1) (fresh j i))

-- the net `other` is the net with each resistor in so many parts
pub record IsDividedNet (parts : ℕ) (net other : NumberedNet) (to : ℕ → ℕ) (fresh : ℕ → ℕ → ℕ) : Type 0 where
  pub some : 0 < parts
  pub root : other.root ≡ to net.root
  pub nodes : other.nodes ≡ net.nodes + length net.edges * (parts - 1)
  pub within : (k : ℕ) → k < net.nodes → to k < other.nodes
  pub fresh_within : (j i : ℕ) → j < length net.edges → 0 < i → i < parts → fresh j i < other.nodes
  pub each : (x : ℕ) → x < other.nodes → ((k : ℕ) × (k < net.nodes) × (x ≡ to k))
      ⊎ ((j : ℕ) × (i : ℕ) × (j < length net.edges) × (0 < i) × (i < parts) × (x ≡ fresh j i))
  pub to_once : (k l : ℕ) → k < net.nodes → l < net.nodes → to k ≡ to l → k ≡ l
  pub fresh_once : (j i h g : ℕ) → j < length net.edges → h < length net.edges → 0 < i → i < parts → 0 < g → g < parts
      → fresh j i ≡ fresh h g → (j ≡ h) × (i ≡ g)
  pub apart : (k j i : ℕ) → k < net.nodes → j < length net.edges → 0 < i → i < parts → to k ≢ fresh j i
  pub count : length other.edges ≡ parts * length net.edges
  pub resistors : (j i : ℕ) → j < length net.edges → i < parts
      → edge_at other.edges (parts * j + i)
      ≡ (
        link parts to fresh net.edges j i,
        link parts to fresh net.edges j (i + 1),
        part_of parts (edge_at net.edges j).2 i,
      )
  pub sums : (k : ℕ) → k < net.nodes → capacitance_at other.caps (to k) ≡ capacitance_at net.caps k
  pub bare : (j i : ℕ) → j < length net.edges → 0 < i → i < parts → capacitance_at other.caps (fresh j i) ≡ 0

-- a node of the divided tree has the new number of the node of the tree that it was
pub record IsTreeDivided (old new : List Node) (order new_order : List ℕ) (to : ℕ → ℕ) : Type 0 where
  pub chains : Chains
  pub divided : IsDivided old new chains
  pub numbers : (u : ℕ) → u < length old → slice_index new_order (chains.at u) ≡ to (slice_index order u)

-- the tree of the divided net is that of the net with its edges divided, by the nodes' numbers
abbrev pub DividedNetsHaveDividedTrees : Type 0
DividedNetsHaveDividedTrees = (parts : ℕ) (net other : NumberedNet) (to : ℕ → ℕ) (fresh : ℕ → ℕ → ℕ)
    → IsDividedNet parts net other to fresh
    → (old new : List Node) (order new_order : List ℕ) → IsTreeOfNet net old order → IsTreeOfNet other new new_order
    → IsTreeDivided old new order new_order to

-- it has one where the net has
abbrev pub DividedNetsHaveTrees : Type 0
DividedNetsHaveTrees = (parts : ℕ) (net other : NumberedNet) (to : ℕ → ℕ) (fresh : ℕ → ℕ → ℕ)
    → IsDividedNet parts net other to fresh
    → (old : List Node) (order : List ℕ) → IsTreeOfNet net old order
    → (new : List Node) × (new_order : List ℕ) × IsTreeOfNet other new new_order

-- it is the divided net by any other numbers
abbrev pub RenumberedNetsAreDivided : Type 0
RenumberedNetsAreDivided = (parts : ℕ) (net mid other : NumberedNet) (to : ℕ → ℕ) (fresh : ℕ → ℕ → ℕ) (on back : ℕ → ℕ)
    → IsDividedNet parts net mid to fresh → IsRenumbered mid other on back
    → IsDividedNet parts net other (λ k. on (to k)) (λ j i. on (fresh j i))
