-- The search from the root, in breadth: what was reached, and how.
use Rattle.std.specs.Prelude.{◌≡◌, ◌≢◌, ◌↔◌, ℕ, ◌+◌, ◌<◌, ◌==◌, ◌⊎◌, List, [], ◌∷◌, ◌++◌, length, slice_index, slice_index_or, slice_set, if◌then◌else◌}
use Rattle.std.specs.List.{sum_by}
use Rattle.rc_tree.specs.Chains.{edge_at, Joins, AreJoined}
use Rattle.rc_tree.specs.Nets.{cap_at, capacitance_at}
use Rattle.elmore.specs.declared.tree.Node.{Node}
use Rattle.rc_tree.specs.declared.search.Place.{Place}
use Rattle.rc_tree.specs.declared.search.Reached.{Reached}

abbrev pub place_at : List Place → ℕ → Place
place_at places i = slice_index_or places i (record { node = 0; parent = 0; edge = 0 })

abbrev pub root_of : List Place → ℕ
root_of places = (place_at places 0).node

-- the node v was reached: its rank is one more than the number of its place, and 0 where it has none
abbrev pub IsSeen : List ℕ → ℕ → Type 0
IsSeen ranks v = 0 < slice_index ranks v

-- a node that has no rank by now gets the next place, and its rank
abbrev pub with_place : ℕ → List Place → Place → List Place
with_place rank places place = if rank == 0 then places ++ (place ∷ []) else places

abbrev pub with_rank : ℕ → List ℕ → ℕ → ℕ → List ℕ
with_rank rank ranks node next = if rank == 0 then slice_set ranks node next else ranks

abbrev pub places_with : Reached → Place → List Place
places_with old place = with_place (slice_index old.ranks.items place.node) old.places.items place

abbrev pub ranks_with : Reached → Place → List ℕ
ranks_with old place =
    with_rank (slice_index old.ranks.items place.node) old.ranks.items place.node (length old.places.items + 1)

-- all nodes have a rank, or this is the first that has none
abbrev pub AreAllSeen : List ℕ → Type 0
AreAllSeen ranks = (v : ℕ) → v < length ranks → IsSeen ranks v

abbrev pub IsFirstUnseen : List ℕ → ℕ → Type 0
IsFirstUnseen ranks v = (v < length ranks) × (slice_index ranks v ≡ 0) × ((u : ℕ) → u < v → IsSeen ranks u)

pub record IsWiredTo (edges : List (ℕ × ℕ × ℕ)) (places : List Place) (place : Place) : Type 0 where
  pub number : place.edge < length edges
  pub joins : Joins (edge_at edges place.edge) (place_at places place.parent).node place.node

abbrev pub IsEarlier : Place → Place → Type 0
IsEarlier p q = (p.parent < q.parent) ⊎ ((p.parent ≡ q.parent) × (p.edge < q.edge))

-- places are nodes of the net, each once, from the root on; each other is wired to an earlier one, breadth first
pub record AreReached (n root : ℕ) (edges : List (ℕ × ℕ × ℕ)) (places : List Place) : Type 0 where
  pub some : 0 < length places
  pub begins : (place_at places 0).node ≡ root
  pub root_parent : (place_at places 0).parent ≡ 0
  pub root_edge : (place_at places 0).edge ≡ length edges
  pub within : (i : ℕ) → i < length places → (place_at places i).node < n
  pub once : (i k : ℕ) → i < k → k < length places → (place_at places i).node ≢ (place_at places k).node
  pub above : (i : ℕ) → 0 < i → i < length places → (place_at places i).parent < i
  pub wired : (i : ℕ) → 0 < i → i < length places → IsWiredTo edges places (place_at places i)
  pub breadth_first : (i k : ℕ) → 0 < i → i < k → k < length places → IsEarlier (place_at places i) (place_at places k)

abbrev pub seen_count : List ℕ → ℕ
seen_count ranks = sum_by (λ rank. if rank == 0 then 0 else 1) ranks

-- just the nodes that have a place were seen, each at its own
pub record AreSeen (n : ℕ) (places : List Place) (ranks : List ℕ) : Type 0 where
  pub nodes : length ranks ≡ n
  pub ranked : (i : ℕ) → i < length places → slice_index ranks (place_at places i).node ≡ i + 1
  pub found : (v : ℕ) → IsSeen ranks v → (i : ℕ) × (i < length places) × ((place_at places i).node ≡ v)
  pub count : seen_count ranks ≡ length places

-- the neighbours of v by resistors before the number limit were seen
pub record AreSeenBy (edges : List (ℕ × ℕ × ℕ)) (ranks : List ℕ) (v limit : ℕ) : Type 0 where
  pub each : (j w : ℕ) → j < limit → j < length edges → Joins (edge_at edges j) v w → IsSeen ranks w

-- the search has scanned the places before p, and of p's resistors those before the number limit
pub record IsScan (n root : ℕ) (edges : List (ℕ × ℕ × ℕ)) (places : List Place) (ranks : List ℕ)
    (p limit : ℕ) : Type 0 where
  pub reached : AreReached n root edges places
  pub marks : AreSeen n places ranks
  pub latest : (i : ℕ) → 0 < i → i < length places
      → ((place_at places i).parent < p) ⊎ (((place_at places i).parent ≡ p) × ((place_at places i).edge < limit))
  pub before : (i : ℕ) → i < p → AreSeenBy edges ranks (place_at places i).node (length edges)
  pub now : AreSeenBy edges ranks (place_at places p).node limit

-- the places before p are scanned, in the net that the search has begun
abbrev pub HasScanned : Reached → List (ℕ × ℕ × ℕ) → Reached → ℕ → Type 0
HasScanned begun edges reached p =
    IsScan (length begun.ranks.items) (root_of begun.places.items) edges reached.places.items reached.ranks.items p 0

-- the whole search: it saw just the nodes that are joined to the root
pub record IsSearch (n root : ℕ) (edges : List (ℕ × ℕ × ℕ)) (places : List Place) (ranks : List ℕ) : Type 0 where
  pub reached : AreReached n root edges places
  pub marks : AreSeen n places ranks
  pub joined : (v : ℕ) → IsSeen ranks v ↔ AreJoined edges root v

-- a place as a node of the tree, whose wire is the place's resistor, and the root's none: without capacitors, and with
-- those of the net
abbrev pub bare_node_of : List (ℕ × ℕ × ℕ) → Place → Node
bare_node_of edges place = record { parent = place.parent; r = (edge_at edges place.edge).2; c = 0 }

abbrev pub with_capacitance : Node → ℕ → Node
with_capacitance node c = record { parent = node.parent; r = node.r; c = c }

abbrev pub with_caps : List (ℕ × ℕ) → Place → Node → Node
with_caps caps place node = with_capacitance node (capacitance_at caps place.node)

abbrev pub node_of : List (ℕ × ℕ × ℕ) → List (ℕ × ℕ) → Place → Node
node_of edges caps place = with_caps caps place (bare_node_of edges place)

-- each capacitor is at a node that has a place, and the nodes have the ranks of their places
pub record HavePlaces (caps : List (ℕ × ℕ)) (places : List Place) (ranks : List ℕ) : Type 0 where
  pub within : (k : ℕ) → k < length caps → (cap_at caps k).0 < length ranks
  pub ranked : (i : ℕ) → i < length places → slice_index ranks (place_at places i).node ≡ i + 1
  pub found : (k : ℕ) → k < length caps → (i : ℕ) × (i < length places) × ((place_at places i).node ≡ (cap_at caps k).0)
