-- The tree of a stage's net that is read again.
use Rattle.std.specs.Prelude.{◌≡◌, ℕ, ◌<◌, ◌==◌, not, Bool, true, List, [], ◌∷◌, length, map, slice_index, if◌then◌else◌}
use Rattle.std.specs.List.{range_with_len}
use Rattle.elmore.specs.declared.tree.Node.{Node}
use Rattle.spef_net.specs.declared.net.ParNet.{ParNet}
use Rattle.cut_laws.specs.Pieces.{IsPieceOf, in_piece}
use Rattle.vg_design.specs.Designs.{Design, Joined, ends_of, name_of, sink_load}
use Rattle.vg_design.specs.Parts.{loaded_tree}
use Rattle.vg_split.specs.Splits.{Split, conn_in, ends_in, forest, head, is_celled, name_in}
use Rattle.spef_wire.specs.Refusals.{IsNetTree, PassesUpTo, drivers_of}
use Rattle.spef_wire.specs.Wires.{is_sink_node}
use Rattle.split_laws.specs.ReadNets.{IsReadOf, stands_for}
use Rattle.split_laws.specs.StagePieces.{load_in}

-- a net has a tree
pub record HasTree (net : ParNet) : Type 0 where
  pub tree : List Node
  pub order : List ℕ
  pub a_tree : IsNetTree net tree order

-- What is read of a stage's net has the stage's connections, of which the first, where the stage begins, alone drives
-- it. No refusal by the parasitics alone refuses it, but for its size; and it has a tree.
pub record IsReadStage (x : Split) (k : ℕ) (read : ParNet) : Type 0 where
  pub conns : read.conns ≡ map (conn_in x k) (range_with_len 0 (length (ends_in x k)))
  pub ends : ends_of read ≡ map (name_in x k) (ends_in x k)
  pub driver : drivers_of read ≡ conn_in x k 0 ∷ []
  pub begins : slice_index (ends_in x k) 0 ≡ head x k
  pub accepted : PassesUpTo 15 read
  pub tree : HasTree read

abbrev pub ReadStagesAreAccepted : Type 0
ReadStagesAreAccepted =
    (d : Design) (n : Joined) (x : Split) (k : ℕ) (read : ParNet) → IsReadOf d n x k read → IsReadStage x k read

-- a node of a stage is a sink of the stage's net: a cell that ends the stage, or a sink of the net that is split
abbrev pub is_sink_in : Split → ℕ → ℕ → Bool
is_sink_in x k w = if is_celled x w then not (w == head x k) else is_sink_node x.par (slice_index x.order w)

-- In a new design the sinks of a stage have the loads of the old one, and cells that end it those of their inputs.
abbrev pub HasLoadsOf : Design → Joined → Split → ℕ → Design → Joined → Type 0
HasLoadsOf d n x k new net =
    (w : ℕ) → w < length x.problem.tree.nodes → in_piece (forest x) (head x k) w ≡ true → is_sink_in x k w ≡ true
    → sink_load new net (name_in x k w) ≡ load_in d n x k w

-- The tree of a net of a new design is a stage's piece. Its nodes stand for those of the stage by their names, and the
-- sinks are the stage's.
pub record IsReadPiece (x : Split) (k : ℕ) (new : Design) (net : Joined) (tree : List Node)
    (order : List ℕ) : Type 0 where
  pub a_tree : IsNetTree net.par tree order
  pub piece : IsPieceOf (forest x) (head x k) (loaded_tree new net tree order) (λ i.
      stands_for x k net.par (slice_index order i))
  pub names : (j : ℕ) → j < length net.par.nodes → name_in x k (stands_for x k net.par j) ≡ name_of net.par j
  pub sinks : (j : ℕ) → j < length net.par.nodes → is_sink_node net.par j ≡ is_sink_in x k (stands_for x k net.par j)

-- whatever tree the net has
abbrev pub ReadStagesHavePieces : Type 0
ReadStagesHavePieces =
    (d : Design) (n : Joined) (x : Split) (k : ℕ) (new : Design) (net : Joined) → IsReadOf d n x k net.par
    → HasLoadsOf d n x k new net
    → (tree : List Node) (order : List ℕ) → IsNetTree net.par tree order → IsReadPiece x k new net tree order
