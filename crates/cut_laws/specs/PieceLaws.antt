-- What the pieces of a net that is cut at its cells have to do with the net.
use Rattle.std.specs.Prelude.{◌≡◌, ℕ, ◌+◌, ◌<◌, cond, List, length, Option}
use Rattle.elmore.specs.Cells.{cell_at, is_inverter}
use Rattle.elmore.specs.Trees.{IsTree}
use Rattle.elmore.specs.Wire.{downstream_in, delay_in}
use Rattle.elmore.specs.Placed.{placed_load, placed_input_load, placed_delay, placed_inverters}
use Rattle.elmore.specs.PlacedLaws.{own_delay, HasNoCell}
use Rattle.elmore.specs.declared.tree.Node.{Node}
use Rattle.elmore.specs.declared.rep.Rep.{Rep}
use Rattle.cut_laws.specs.Pieces.{placed, IsPieceOf}

-- whether the cell at v, if there is one, inverts: 1 or 0
abbrev pub own_inverters : List Rep → List (Option ℕ) → ℕ → ℕ
own_inverters reps cells v = cond (is_inverter (cell_at reps cells v)) 1 0

-- a piece without cells charges, delays and inverts as its part of the net does with them
pub record IsCutFrom (tree : List Node) (reps : List Rep) (cells : List (Option ℕ)) (v : ℕ) (piece : List Node)
    (at : ℕ → ℕ) : Type 0 where
  -- its root has the load of v, and each other node what is seen of it from above
  pub root_load : downstream_in piece 0 ≡ placed_load tree reps cells v
  pub loads : (i : ℕ) → 0 < i → i < length piece → downstream_in piece i ≡ placed_input_load tree reps cells (at i)
  -- the delay from v to a node of the piece: the cell at v, the piece's wire, and the cell there
  pub delays : (i : ℕ) → 0 < i → i < length piece
      → placed_delay tree reps cells v (at i) ≡ own_delay tree reps cells v + delay_in piece i
      + own_delay tree reps cells (at i)
  pub inverters : (i : ℕ) → 0 < i → i < length piece
      → placed_inverters tree reps cells v (at i) ≡ own_inverters reps cells v + own_inverters reps cells (at i)

abbrev pub PiecesAct : Type 0
PiecesAct = (tree : List Node) (reps : List Rep) (cells : List (Option ℕ)) → IsTree tree
    → (v : ℕ) (piece : List Node) (at : ℕ → ℕ) → IsPieceOf (placed tree reps cells) v piece at
    → IsCutFrom tree reps cells v piece at

-- a net without cells is its own only piece
abbrev pub BareIsOnePiece : Type 0
BareIsOnePiece = (tree : List Node) (reps : List Rep) (cells : List (Option ℕ)) → IsTree tree → HasNoCell cells
    → IsPieceOf (placed tree reps cells) 0 tree (λ i. i)
