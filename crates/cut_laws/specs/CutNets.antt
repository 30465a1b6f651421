-- The nets that a placed net is cut into, and how they are timed.
use Rattle.std.specs.Prelude.{◌≡◌, ◌≢◌, ◌↔◌, ◌⊎◌, ℕ, ◌<◌, true, cond, Bool, List, ◌∷◌, length, ℤ, Option, Some, None}
use Rattle.std.specs.List.{AllPairs}
use Rattle.elmore.specs.Cells.{cell_at}
use Rattle.elmore.specs.Legal.{IsPlaced}
use Rattle.elmore.specs.Placements.{IsSlack, HasPolarity}
use Rattle.elmore.specs.Problems.{sink_of, is_sink}
use Rattle.elmore.specs.Stage.{in_stage, ends_stage, is_head}
use Rattle.elmore.specs.Trees.{parent_of}
use Rattle.elmore.specs.declared.rep.Rep.{Rep}
use Rattle.elmore.specs.declared.parts.Sink.{Sink}
use Rattle.elmore.specs.declared.problem.Problem.{Problem}
use Rattle.cut_laws.specs.Pieces.{Forest, placed, IsPieceOf}
use Rattle.cut_laws.specs.Walks.{End, nothing, sink, passes, TimedNet, end_at, IsRetimed, HavePolarity, IsClimb}

-- a problem's net with the cells of a placement
abbrev pub forest_of : Problem → List (Option ℕ) → Forest
forest_of p cells = placed p.tree.nodes p.reps cells

-- w is in the stage of v; a cell at w ends it
abbrev pub is_inside : Problem → List (Option ℕ) → ℕ → ℕ → Bool
is_inside p cells v w = in_stage (parent_of p.tree.nodes) (cell_at p.reps cells) v w

abbrev pub is_end : Problem → List (Option ℕ) → ℕ → ℕ → Bool
is_end p cells v w = ends_stage (parent_of p.tree.nodes) (cell_at p.reps cells) v w

-- a piece begins at v: at the root, or at a cell
pub record Begins (p : Problem) (cells : List (Option ℕ)) (v : ℕ) : Type 0 where
  pub node : v < length p.tree.nodes
  pub head : is_head (cell_at p.reps cells) v ≡ true

-- the pieces as nets: the piece of v is the net of the number `net_of v`, whose tree's node i stands for the node
-- `at v i`
pub record Pieces : Type 0 where
  pub nets : ℕ → TimedNet
  pub net_of : ℕ → ℕ
  pub at : ℕ → ℕ → ℕ

abbrev pub net_at : Pieces → ℕ → TimedNet
net_at pieces v = pieces.nets (pieces.net_of v)

abbrev pub sink_end : Option Sink → End
sink_end None = nothing
sink_end (Some goal) = sink goal

abbrev pub cell_end : Option Rep → ℕ → End
cell_end None net = nothing
cell_end (Some rep) net = passes rep (Some net)

-- what stands at the node w in the piece of v: in the stage w's sink, and at its end the cell, which drives w's own
-- piece
abbrev pub end_of : Problem → List (Option ℕ) → Pieces → ℕ → ℕ → End
end_of p cells pieces v w =
    cond (is_inside p cells v w) (sink_end (sink_of p.sinks w)) (cell_end (cell_at p.reps cells w) (pieces.net_of w))

-- the net of v is its piece; where v's cell ends the stage of u, the net of u stands at the cell's input
pub record IsCutAt (p : Problem) (cells : List (Option ℕ)) (pieces : Pieces) (v : ℕ) : Type 0 where
  pub piece : IsPieceOf (forest_of p cells) v (net_at pieces v).tree (pieces.at v)
  pub one_each : length (net_at pieces v).ends ≡ length (net_at pieces v).tree
  pub ends : (i : ℕ) → i < length (net_at pieces v).tree
      → end_at (net_at pieces v) i ≡ end_of p cells pieces v (pieces.at v i)
  pub above : (u : ℕ) → Begins p cells u → is_end p cells u v ≡ true → (net_at pieces v).above ≡ Some (pieces.net_of u)

-- the root and each cell have a net of their own, which is their piece; the root's is driven from outside
pub record AreCut (p : Problem) (cells : List (Option ℕ)) (pieces : Pieces) : Type 0 where
  pub once : (v u : ℕ) → Begins p cells v → Begins p cells u → pieces.net_of v ≡ pieces.net_of u → v ≡ u
  pub each : (v : ℕ) → Begins p cells v → IsCutAt p cells pieces v
  pub first : (net_at pieces 0).above ≡ None

-- the nets that a placed net is cut into time to the slack of the placement, and to no other
abbrev pub CutNetsRetime : Type 0
CutNetsRetime = (p : Problem) (cells : List (Option ℕ)) (pieces : Pieces) → IsPlaced p cells → AreCut p cells pieces
    → (x : ℤ) → IsSlack p cells x ↔ IsRetimed pieces.nets (pieces.net_of 0) p.driver x

-- their sinks have the wanted polarities just where the placement gives them these
abbrev pub CutNetsHavePolarity : Type 0
CutNetsHavePolarity =
    (p : Problem) (cells : List (Option ℕ)) (pieces : Pieces) → IsPlaced p cells → AreCut p cells pieces
    → ((w : ℕ) → HasPolarity p cells w) ↔ HavePolarity pieces.nets (pieces.net_of 0) p.driver

-- from each of them one climbs to the root's, over none twice
abbrev pub CutNetsClimb : Type 0
CutNetsClimb =
    (p : Problem) (cells : List (Option ℕ)) (pieces : Pieces) → AreCut p cells pieces → (v : ℕ) → Begins p cells v
    → (path : List ℕ) × IsClimb pieces.nets (pieces.net_of v) path (pieces.net_of 0)
    × AllPairs (λ a b. a ≢ b) (pieces.net_of v ∷ path)

-- at w, below the first node of the piece of v, stands a sink or a cell that ends the piece
pub record IsDriven (p : Problem) (cells : List (Option ℕ)) (v w : ℕ) : Type 0 where
  pub node : w < length p.tree.nodes
  pub below : w ≢ v
  pub stands : ((is_inside p cells v w ≡ true) × (is_sink p.sinks w ≡ true)) ⊎ (is_end p cells v w ≡ true)

-- each piece drives a sink or a cell, if no sink stands where it begins
abbrev pub PiecesHaveSinks : Type 0
PiecesHaveSinks =
    (p : Problem) (cells : List (Option ℕ)) → IsPlaced p cells → (v : ℕ) → Begins p cells v → sink_of p.sinks v ≡ None
    → (w : ℕ) × IsDriven p cells v w
