-- A piece as a net that is read: numbered nodes, capacitors and resistors, in any order and direction.
use Rattle.std.specs.Prelude.{◌≡◌, ◌≢◌, ◌⊎◌, ℕ, ◌+◌, ◌<◌, true, List, length, slice_index, Option}
use Rattle.elmore.specs.Trees.{IsTree, parent_of, resistance, capacitance}
use Rattle.elmore.specs.declared.tree.Node.{Node}
use Rattle.elmore.specs.declared.rep.Rep.{Rep}
use Rattle.rc_tree.specs.Chains.{edge_at}
use Rattle.rc_tree.specs.Nets.{capacitance_at}
use Rattle.rc_tree.specs.Faults.{NoneFloats}
use Rattle.rc_tree.specs.Answers.{IsTreeOf}
use Rattle.cut_laws.specs.Pieces.{Forest, placed, in_piece, piece_capacitance, IsPieceOf}

-- nodes numbered from 0, the root's number, capacitors and resistors
pub record NumberedNet : Type 0 where
  pub nodes : ℕ
  pub root : ℕ
  pub caps : List (ℕ × ℕ)
  pub edges : List (ℕ × ℕ × ℕ)

-- a tree of the net, and the numbers of its nodes
abbrev pub IsTreeOfNet : NumberedNet → List Node → List ℕ → Type 0
IsTreeOfNet net tree order = IsTreeOf net.nodes net.root net.caps net.edges tree order

-- in the piece of v the resistor is the one from w to its parent; its direction says nothing
pub record IsWireOf (f : Forest) (v : ℕ) (stands : ℕ → ℕ) (w : ℕ) (edge : ℕ × ℕ × ℕ) : Type 0 where
  pub below : w ≢ v
  pub joins : ((stands edge.0 ≡ f.parent w) × (stands edge.1 ≡ w))
      ⊎ ((stands edge.0 ≡ w) × (stands edge.1 ≡ f.parent w))
  pub resistor : edge.2 ≡ f.r w

-- the net is the piece of v: its node k stands for the node `stands k` of the forest, and has besides its capacitors
-- the load `loads k` of a pin
pub record IsPieceNet (f : Forest) (v : ℕ) (net : NumberedNet) (loads stands : ℕ → ℕ) : Type 0 where
  pub root_node : net.root < net.nodes
  pub root_stands : stands net.root ≡ v
  pub within : (k : ℕ) → k < net.nodes → stands k < f.n
  pub inside : (k : ℕ) → k < net.nodes → in_piece f v (stands k) ≡ true
  pub once : (k l : ℕ) → k < net.nodes → l < net.nodes → stands k ≡ stands l → k ≡ l
  pub each : (w : ℕ) → w < f.n → in_piece f v w ≡ true → (k : ℕ) × (k < net.nodes) × (stands k ≡ w)
  pub from_nodes : (j : ℕ) → j < length net.edges → (edge_at net.edges j).0 < net.nodes
  pub to_nodes : (j : ℕ) → j < length net.edges → (edge_at net.edges j).1 < net.nodes
  pub wires : (j : ℕ) → j < length net.edges → (w : ℕ) × IsWireOf f v stands w (edge_at net.edges j)
  pub wired : (k : ℕ) → k < net.nodes → stands k ≢ v
      → (j : ℕ) × (j < length net.edges) × IsWireOf f v stands (stands k) (edge_at net.edges j)
  pub count : length net.edges + 1 ≡ net.nodes
  pub capacitances : (k : ℕ) → k < net.nodes → capacitance_at net.caps k + loads k ≡ piece_capacitance f v (stands k)

-- the same tree with the loads of its pins
pub record HasLoads (built : List Node) (order : List ℕ) (loads : ℕ → ℕ) (loaded : List Node) : Type 0 where
  pub count : length loaded ≡ length built
  pub parents : (i : ℕ) → i < length built → parent_of loaded i ≡ parent_of built i
  pub resistances : (i : ℕ) → i < length built → resistance loaded i ≡ resistance built i
  pub capacitances : (i : ℕ) → i < length built
      → capacitance loaded i ≡ capacitance built i + loads (slice_index order i)

-- any tree of a piece that is read, with the loads of its pins, is the tree of the piece
abbrev pub BuiltPieces : Type 0
BuiltPieces = (tree : List Node) (reps : List Rep) (cells : List (Option ℕ)) → IsTree tree
    → (v : ℕ) (net : NumberedNet) (loads stands : ℕ → ℕ) → IsPieceNet (placed tree reps cells) v net loads stands
    → (built loaded : List Node) (order : List ℕ) → IsTreeOfNet net built order → HasLoads built order loads loaded
    → IsPieceOf (placed tree reps cells) v loaded (λ i. stands (slice_index order i))

-- each node of a piece is joined to its root
abbrev pub PiecesAreJoined : Type 0
PiecesAreJoined = (tree : List Node) (reps : List Rep) (cells : List (Option ℕ)) → IsTree tree
    → (v : ℕ) (net : NumberedNet) (loads stands : ℕ → ℕ) → IsPieceNet (placed tree reps cells) v net loads stands
    → NoneFloats net.nodes net.edges net.root

-- so it has a tree: by the count of its resistors there is no loop
abbrev pub PiecesHaveTrees : Type 0
PiecesHaveTrees = (tree : List Node) (reps : List Rep) (cells : List (Option ℕ)) → IsTree tree
    → (v : ℕ) (net : NumberedNet) (loads stands : ℕ → ℕ) → IsPieceNet (placed tree reps cells) v net loads stands
    → (built : List Node) × (order : List ℕ) × IsTreeOfNet net built order

-- the same net with other numbers, `to` from the first to the second and `back`; capacitors may be put together
pub record IsRenumbered (net other : NumberedNet) (to back : ℕ → ℕ) : Type 0 where
  pub nodes : other.nodes ≡ net.nodes
  pub root : other.root ≡ to net.root
  pub within : (k : ℕ) → k < net.nodes → to k < net.nodes
  pub within_back : (k : ℕ) → k < net.nodes → back k < net.nodes
  pub there : (k : ℕ) → k < net.nodes → to (back k) ≡ k
  pub again : (k : ℕ) → k < net.nodes → back (to k) ≡ k
  pub sums : (k : ℕ) → k < net.nodes → capacitance_at other.caps (to k) ≡ capacitance_at net.caps k
  pub count : length other.edges ≡ length net.edges
  pub resistors : (j : ℕ) → j < length net.edges
      → edge_at other.edges j ≡ (to (edge_at net.edges j).0, to (edge_at net.edges j).1, (edge_at net.edges j).2)

-- a piece is one with any other numbers
abbrev pub RenumberedPieces : Type 0
RenumberedPieces = (tree : List Node) (reps : List Rep) (cells : List (Option ℕ))
    → (v : ℕ) (net other : NumberedNet) (loads stands to back : ℕ → ℕ)
    → IsPieceNet (placed tree reps cells) v net loads stands → IsRenumbered net other to back
    → IsPieceNet (placed tree reps cells) v other (λ k. loads (back k)) (λ k. stands (back k))
