-- What a user of Elmore's model knows of every tree with cells.
use Rattle.std.specs.Prelude.{◌≡◌, ◌≢◌, ℕ, ◌+◌, ◌*◌, ◌<◌, true, List, length, slice_index_or, Option, None}
use Rattle.std.specs.List.{sum_by}
use Rattle.elmore.specs.Path.{is_over}
use Rattle.elmore.specs.Cells.{cell_at, cell_delay}
use Rattle.elmore.specs.Stage.{in_stage, is_head}
use Rattle.elmore.specs.Trees.{IsTree, parent_of, resistance, capacitance}
use Rattle.elmore.specs.Wire.{downstream_in, delay_in}
use Rattle.elmore.specs.Laws.{children_of}
use Rattle.elmore.specs.Placed.{placed_load, placed_input_load, placed_delay, placed_inverters}
use Rattle.elmore.specs.declared.tree.Node.{Node}
use Rattle.elmore.specs.declared.rep.Rep.{Rep}

-- a node's load is its own capacitance and what is seen of its children
abbrev pub LoadSteps : Type 0
LoadSteps = (tree : List Node) (reps : List Rep) (cells : List (Option ℕ)) → IsTree tree
    → (v : ℕ) → v < length tree → placed_load tree reps cells v
    ≡ capacitance tree v + sum_by (placed_input_load tree reps cells) (children_of tree v)

-- a node's own cell, into its load
abbrev pub own_delay : List Node → List Rep → List (Option ℕ) → ℕ → ℕ
own_delay tree reps cells v = cell_delay (cell_at reps cells v) (placed_load tree reps cells v)

-- the delays from v: to v its own cell's; to a node below, its parent's, its wire's and its own cell's; and by way of
-- any node between, whose own cell counts once
pub record AreDelaysFrom (tree : List Node) (reps : List Rep) (cells : List (Option ℕ)) (v : ℕ) : Type 0 where
  pub self : placed_delay tree reps cells v v ≡ own_delay tree reps cells v
  pub below : (w : ℕ) → is_over (parent_of tree) v w ≡ true → w ≢ v
      → placed_delay tree reps cells v w
      ≡ placed_delay tree reps cells v (parent_of tree w)
      + (resistance tree w * placed_input_load tree reps cells w + own_delay tree reps cells w)
  pub through : (u w : ℕ) → is_over (parent_of tree) v u ≡ true → is_over (parent_of tree) u w ≡ true
      → placed_delay tree reps cells v w + own_delay tree reps cells u
      ≡ placed_delay tree reps cells v u + placed_delay tree reps cells u w

abbrev pub PlacedDelaySteps : Type 0
PlacedDelaySteps = (tree : List Node) (reps : List Rep) (cells : List (Option ℕ)) → IsTree tree → (v : ℕ)
    → AreDelaysFrom tree reps cells v

abbrev pub HasNoCell : List (Option ℕ) → Type 0
HasNoCell cells = (v : ℕ) → slice_index_or cells v None ≡ None

-- without cells the loads and the delays are the wire's
pub record IsWireAlone (tree : List Node) (reps : List Rep) (cells : List (Option ℕ)) : Type 0 where
  pub loads : (v : ℕ) → placed_load tree reps cells v ≡ downstream_in tree v
  pub delays : (w : ℕ) → placed_delay tree reps cells 0 w ≡ delay_in tree w

abbrev pub BareLoads : Type 0
BareLoads =
    (tree : List Node) (reps : List Rep) (cells : List (Option ℕ)) → HasNoCell cells → IsWireAlone tree reps cells

-- the same cells at v and at all nodes below it
abbrev pub AreAlikeFrom : List Node → ℕ → List (Option ℕ) → List (Option ℕ) → Type 0
AreAlikeFrom tree v a b =
    (u : ℕ) → is_over (parent_of tree) v u ≡ true → slice_index_or a u None ≡ slice_index_or b u None

-- v is loaded and seen alike, and the nodes at and below it are as late and as often inverted
pub record ActAlikeFrom (tree : List Node) (reps : List Rep) (v : ℕ) (a b : List (Option ℕ)) : Type 0 where
  pub load : placed_load tree reps a v ≡ placed_load tree reps b v
  pub input_load : placed_input_load tree reps a v ≡ placed_input_load tree reps b v
  pub delays : (w : ℕ) → is_over (parent_of tree) v w ≡ true
      → placed_delay tree reps a v w ≡ placed_delay tree reps b v w
  pub inverters : (w : ℕ) → is_over (parent_of tree) v w ≡ true
      → placed_inverters tree reps a v w ≡ placed_inverters tree reps b v w

abbrev pub BelowDecides : Type 0
BelowDecides = (tree : List Node) (reps : List Rep) (v : ℕ) (a b : List (Option ℕ)) → IsTree tree
    → AreAlikeFrom tree v a b → ActAlikeFrom tree reps v a b

-- the node w is in the stage that begins at v
pub record IsHeadOf (tree : List Node) (reps : List Rep) (cells : List (Option ℕ)) (w v : ℕ) : Type 0 where
  pub node : v < length tree
  pub head : is_head (cell_at reps cells) v ≡ true
  pub inside : in_stage (parent_of tree) (cell_at reps cells) v w ≡ true

-- each node is in one stage, and in no other
abbrev pub OneStage : Type 0
OneStage = (tree : List Node) (reps : List Rep) (cells : List (Option ℕ)) → IsTree tree → (w : ℕ) → w < length tree
    → (v : ℕ) × IsHeadOf tree reps cells w v × ((u : ℕ) → IsHeadOf tree reps cells w u → u ≡ v)
