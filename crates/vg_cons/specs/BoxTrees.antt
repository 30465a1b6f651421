-- Trees of boxes.
use Rattle.std.specs.Prelude.{◌≡◌, ℕ, ◌+◌, ◌++◌, ℤ, ◌≤ℤ◌, Bool, List, true, ⊤}
use Rattle.std.specs.List.{All, list_any}
use Rattle.vg_cons.specs.Rows.{holds}
use Rattle.vg_cons.specs.Statements.{Point, Box}
use Rattle.vg_cons.specs.declared.box_tree.BoxTree.{BoxTree, Leaf, Halves'}
use Rattle.vg_cons.specs.declared.box_tree.Side.{Side}
use Rattle.vg_cons.specs.declared.box_tree.Side.TheVariants.{Left, Bottom, Right, Top}

-- a box has all points of another one
abbrev pub Covers : Box → Box → Type 0
Covers around box = (point : Point) → holds point box ≡ true → holds point around ≡ true

-- no point of a box is beyond this side of it
abbrev pub IsSide : Side → Box → ℤ → Type 0
IsSide Left box at = (at ≤ℤ box.0.0) × (at ≤ℤ box.1.0)
IsSide Bottom box at = (at ≤ℤ box.0.1) × (at ≤ℤ box.1.1)
IsSide Right box at = (box.0.0 ≤ℤ at) × (box.1.0 ≤ℤ at)
IsSide Top box at = (box.0.1 ≤ℤ at) × (box.1.1 ≤ℤ at)

-- the boxes of a tree
unfoldable pub boxes_in : BoxTree → List Box
boxes_in (Leaf boxes) = boxes.items
boxes_in (Halves' around p one q other) = boxes_in one ++ boxes_in other

-- the box around two halves has all points of their boxes
unfoldable pub IsTree : BoxTree → Type 0
IsTree (Leaf boxes) = ⊤
IsTree (Halves' around p one q other) =
    All (Covers around) (boxes_in one ++ boxes_in other) × IsTree one × IsTree other

-- a tree that has these boxes, in any order: they pass the same tests
pub record IsTreeOf (boxes : List Box) (tree : BoxTree) : Type 0 where
  pub is : IsTree tree
  pub same : (test : Box → Bool) → list_any test (boxes_in tree) ≡ list_any test boxes

-- how many leaves a tree has, and parts that are halved: what is left to look at
unfoldable pub parts_in : BoxTree → ℕ
parts_in (Leaf boxes) = 1
parts_in (Halves' around p one q other) = parts_in one + parts_in other + 1
