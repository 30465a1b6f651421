-- What a user knows of the tree of a net.
use Rattle.std.specs.Prelude.{◌≡◌, ℕ, List}
use Rattle.elmore.specs.declared.tree.Node.{Node}
use Rattle.rc_tree.specs.Answers.{IsTreeOf}

-- a net has at most one tree, and its nodes one order
abbrev pub OneTree : Type 0
OneTree =
    (n root : ℕ) (caps : List (ℕ × ℕ)) (edges : List (ℕ × ℕ × ℕ)) (tree others : List Node) (order numbers : List ℕ)
    → IsTreeOf n root caps edges tree order
    → IsTreeOf n root caps edges others numbers
    → (tree ≡ others) × (order ≡ numbers)
