-- What a user may cite of orders, cycles and slacks.
use Rattle.std.specs.Prelude.{◌≡◌, ℕ, List, length, ℤ, ◌-ℤ◌}
use Rattle.sta_graph.specs.declared.graph.Graph.{Graph}
use Rattle.sta_graph.specs.Paths.{IsAfterCycle, IsLatest, IsEarliest, IsLeastThrough}
use Rattle.sta_graph.specs.Orders.{IsReadyBy, IsLeftNet, IsPeeled, IsWholeOrder}

-- where peeling stops, a net with a lead to it that is not listed is after a cycle
abbrev pub LeftIsAfterCycle : Type 0
LeftIsAfterCycle = (g : Graph) (order : List ℕ) (v : ℕ) → IsPeeled g order → IsLeftNet g order v → IsAfterCycle g v

-- and a net to which all leads are listed is not
abbrev pub ReadyIsNotAfterCycle : Type 0
ReadyIsNotAfterCycle =
    (g : Graph) (order : List ℕ) (v : ℕ) → IsPeeled g order → IsReadyBy g order (length order) v → IsAfterCycle g v → ⊥

-- where all leads have an order, there is no cycle
abbrev pub OrderedHasNoCycle : Type 0
OrderedHasNoCycle = (g : Graph) (order : List ℕ) (v : ℕ) → IsWholeOrder g order → IsAfterCycle g v → ⊥

-- the least slack through a net is its required time less its arrival
abbrev pub SlackOfTimes : Type 0
SlackOfTimes = (g : Graph) (v : ℕ) (a r : ℤ) → IsLatest g v a → IsEarliest g v r → IsLeastThrough g v (r -ℤ a)

-- an arrival, a required time and a slack are each one
abbrev pub OneSlack : Type 0
OneSlack = (g : Graph) (v : ℕ) (x y : ℤ) → IsLeastThrough g v x → IsLeastThrough g v y → x ≡ y
