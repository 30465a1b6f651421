-- When a net has a tree.
use Rattle.std.specs.Prelude.{◌≡◌, ℕ, ◌+◌, ◌<◌, List, length}
use Rattle.elmore.specs.declared.tree.Node.{Node}
use Rattle.rc_tree.specs.Chains.{edge_at}
use Rattle.rc_tree.specs.Faults.{NoneFloats}
use Rattle.rc_tree.specs.Answers.{IsTreeOf}

-- a net has a tree where no node floats and there is no loop
abbrev pub SomeTree : Type 0
SomeTree = (n root : ℕ) (caps : List (ℕ × ℕ)) (edges : List (ℕ × ℕ × ℕ)) → root < n
    → ((j : ℕ) → j < length edges → ((edge_at edges j).0 < n) × ((edge_at edges j).1 < n))
    → NoneFloats n edges root → length edges + 1 ≡ n
    → (tree : List Node) × (order : List ℕ) × IsTreeOf n root caps edges tree order
