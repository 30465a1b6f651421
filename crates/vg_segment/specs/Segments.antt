-- A net of which each resistor is cut into parts, so that cells can stand along a wire.
-- Source: Alpert and Devgan, Wire Segmenting for Improved Buffer Insertion, DAC 1997.
use Rattle.std.specs.Prelude.{◌≡◌, ◌≢◌, ℕ, ◌+◌, ◌-◌, ◌<◌, ◌≤◌, ◌/◌, ◌%◌, ◌*◌, ◌==◌, true, List, [], ◌∷◌, ◌++◌, length, map, filter, cond, ltb}
use Rattle.std.specs.Fmt.{decimal}
use Rattle.std.specs.List.{All, AllPairs, Contains}
use Rattle.elmore.specs.Path.{nodes as numbers}
use Rattle.vg_scan.specs.declared.name.NodeName.{NodeName}
use Rattle.spef_nodes.specs.Nodes.{ParNode}
use Rattle.spef_net.specs.declared.net.ParNet.{ParNet}

-- ---- the new nodes

-- the node of a net whose leaf is a number's decimal text
abbrev pub node_of : List ℕ → ℕ → NodeName
node_of net leaf = record { owner = net; leaf = decimal leaf }

-- no node of the net has this leaf
abbrev pub IsFree : ParNet → ℕ → Type 0
IsFree net leaf = All (λ (node : ParNode). node.name ≢ node_of net.name leaf) net.nodes

-- these are the least free leaves from 1 on, in order
pub record AreLeastFree (net : ParNet) (leaves : List ℕ) : Type 0 where
  pub rise : AllPairs (λ a b. a < b) leaves
  pub free : All (λ leaf. (0 < leaf) × IsFree net leaf) leaves
  pub least : (leaf : ℕ) → 0 < leaf → IsFree net leaf → (last : ℕ) → Contains leaves last → leaf < last
      → Contains leaves leaf

-- a new node: an inner one, without a note
abbrev pub new_node : List ℕ → ℕ → ParNode
new_node net leaf = record { name = node_of net leaf; inner = true; note = [] }

-- ---- the resistors

-- part i of r mΩ in so many parts: the first ones have one more, where it does not divide
abbrev pub part_of : ℕ → ℕ → ℕ → ℕ
part_of parts r i = r / parts + cond (ltb i (r % parts)) 1 0

-- node i of the chain that a resistor becomes, whose new nodes are numbered from `first` on: its first node, the new
-- ones, its second node
abbrev pub link : ℕ → ℕ → ℕ × ℕ × ℕ → ℕ → ℕ
link parts first res i = cond (i == 0) res.0 (cond (i == parts) res.1 (first + (i - 1)))

-- its chain
abbrev pub chain : ℕ → ℕ → ℕ × ℕ × ℕ → List (ℕ × ℕ × ℕ)
chain parts first res =
    map (λ i. (link parts first res i, link parts first res (i + 1), part_of parts res.2 i)) (numbers parts)

-- those of all resistors, one after another
abbrev pub chains : ℕ → ℕ → List (ℕ × ℕ × ℕ) → List (ℕ × ℕ × ℕ)
chains parts first [] = []
chains parts first (res ∷ ress) = chain parts first res ++ chains parts (first + (parts - 1)) ress

-- ---- the net

-- the same capacitors in the order of the nodes; those of one node are in the order in which they were
pub record AreByNode (caps sorted : List (ℕ × ℕ)) : Type 0 where
  pub rise : AllPairs (λ a b. a.0 ≤ b.0) sorted
  pub same : (k : ℕ) → filter (λ cap. cap.0 == k) sorted ≡ filter (λ cap. cap.0 == k) caps

-- `cut` is the net with each resistor cut into so many parts
pub record IsSegmented (net : ParNet) (parts : ℕ) (cut : ParNet) : Type 0 where
  pub leaves : List ℕ
  pub free : AreLeastFree net leaves
  pub count : length leaves ≡ length net.ress * (parts - 1)
  pub named : cut.name ≡ net.name
  pub nodes : cut.nodes ≡ net.nodes ++ map (new_node net.name) leaves
  pub conns : cut.conns ≡ net.conns
  pub caps : AreByNode net.caps cut.caps
  pub ress : cut.ress ≡ chains parts (length net.nodes) net.ress
  pub whole : cut.reduced ≡ net.reduced
  pub plain : cut.inductive ≡ net.inductive

-- a net has one such at most
abbrev pub OneSegmented : Type 0
OneSegmented = (net : ParNet) (parts : ℕ) (cut other : ParNet) → IsSegmented net parts cut → IsSegmented net parts other
    → cut ≡ other
