-- A net that is cut at its cells: a piece for the root and one for each cell.
-- The piece of v is the stage of v, and the cells that end it as its sinks, seen by their inputs alone.
use Rattle.std.specs.Prelude.{◌≡◌, ℕ, ◌<◌, ◌||◌, Bool, true, cond, List, length, Option}
use Rattle.elmore.specs.Cells.{cell_at, input_capacitance}
use Rattle.elmore.specs.Stage.{in_stage, ends_stage}
use Rattle.elmore.specs.Trees.{IsTree, parent_of, resistance, capacitance}
use Rattle.elmore.specs.declared.tree.Node.{Node}
use Rattle.elmore.specs.declared.rep.Rep.{Rep}

-- a forest of n nodes with resistors, capacitors and cells: a node has a parent, the resistance from there, a
-- capacitance and at most one cell
pub record Forest : Type 0 where
  pub n : ℕ
  pub parent : ℕ → ℕ
  pub r : ℕ → ℕ
  pub c : ℕ → ℕ
  pub cell : ℕ → Option Rep

-- a tree with the cells of a placement
abbrev pub placed : List Node → List Rep → List (Option ℕ) → Forest
placed tree reps cells =
    record { n = length tree; parent = parent_of tree; r = resistance tree; c = capacitance tree; cell = cell_at reps cells }

-- w is in the stage of v, or its cell ends it
abbrev pub in_piece : Forest → ℕ → ℕ → Bool
in_piece f v w = in_stage f.parent f.cell v w || ends_stage f.parent f.cell v w

-- what w adds to the piece of v: in the stage its own capacitance, at the stage's end its cell's input
abbrev pub piece_capacitance : Forest → ℕ → ℕ → ℕ
piece_capacitance f v w = cond (in_stage f.parent f.cell v w) (f.c w) (input_capacitance (f.cell w))

-- the tree `piece`, whose nodes are numbered anew, is the piece of v: its node i stands for the node `at i` of the
-- forest
pub record IsPieceOf (f : Forest) (v : ℕ) (piece : List Node) (at : ℕ → ℕ) : Type 0 where
  pub a_tree : IsTree piece
  pub root : at 0 ≡ v
  pub within : (i : ℕ) → i < length piece → at i < f.n
  pub inside : (i : ℕ) → i < length piece → in_piece f v (at i) ≡ true
  pub once : (i k : ℕ) → i < length piece → k < length piece → at i ≡ at k → i ≡ k
  pub each : (w : ℕ) → w < f.n → in_piece f v w ≡ true → (i : ℕ) × (i < length piece) × (at i ≡ w)
  pub edges : (i : ℕ) → 0 < i → i < length piece → at (parent_of piece i) ≡ f.parent (at i)
  pub wires : (i : ℕ) → 0 < i → i < length piece → resistance piece i ≡ f.r (at i)
  pub capacitances : (i : ℕ) → i < length piece → capacitance piece i ≡ piece_capacitance f v (at i)
