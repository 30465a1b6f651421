-- The nets of all stages of a net that is split are what its placement cuts it into.
use Rattle.std.specs.Prelude.{◌≡◌, ℕ, ◌<◌, ◌==◌, ◌&&◌, not, true, List, length, map, slice_index_or, Some, None, if◌then◌else◌}
use Rattle.elmore.specs.Problems.{sink_of}
use Rattle.elmore.specs.declared.tree.Node.{Node}
use Rattle.cut_laws.specs.CutNets.{AreCut, Pieces, is_end, sink_end}
use Rattle.cut_laws.specs.Walks.{End, TimedNet, passes}
use Rattle.vg_design.specs.Designs.{Design, Joined, NO_NODE, name_of}
use Rattle.vg_design.specs.Parts.{loaded_tree}
use Rattle.vg_scan.specs.declared.name.NodeName.{NodeName}
use Rattle.vg_split.specs.Splits.{Split, forest, head, is_celled, repeater_at, stage_from}
use Rattle.vg_split.specs.Stages.{heads}
use Rattle.split_laws.specs.ReadNets.{node_named, stands_for}
use Rattle.split_laws.specs.ReadPieces.{IsReadPiece}
use Rattle.split_laws.specs.StagePieces.{IsSplitOf}

-- The nets of a new design by their numbers, with the names of the nodes of each one's tree, and the number of the net
-- of each stage.
pub record StageNets : Type 0 where
  pub nets : ℕ → TimedNet
  pub names : ℕ → List NodeName
  pub number : ℕ → ℕ

-- the net of a stage
abbrev pub net_at : StageNets → ℕ → TimedNet
net_at stages k = stages.nets (stages.number k)

-- the node of a stage that a node of its net's tree stands for, by its name
abbrev pub tree_node : Split → StageNets → ℕ → ℕ → ℕ
tree_node x stages k i = node_named x k (slice_index_or (stages.names (stages.number k)) i NO_NODE.name)

-- the piece that begins at a node is the net of the stage that begins there
abbrev pub pieces_of : Split → StageNets → Pieces
pieces_of x stages = record {
  nets = stages.nets;
  net_of = λ v. stages.number (stage_from x v);
  at = λ v. tree_node x stages (stage_from x v);
}

-- what stands at a node of a stage: the cell that ends the stage there, which drives the net of its own stage; or a
-- sink
abbrev pub stage_end : Split → StageNets → ℕ → ℕ → End
stage_end x stages k w =
    if is_celled x w && not (w == head x k) then passes (repeater_at x w).rep (Some (stages.number (stage_from x w)))
    else sink_end (sink_of x.problem.sinks w)

-- The net of a stage is timed as the stage's piece: with its tree, with what stands at its nodes, and under the net of
-- the stage that its cell ends.
pub record IsTimedStage (x : Split) (new : Design) (stages : StageNets) (k : ℕ) : Type 0 where
  pub net : Joined
  pub tree : List Node
  pub order : List ℕ
  pub piece : IsReadPiece x k new net tree order
  pub tree_is : (net_at stages k).tree ≡ loaded_tree new net tree order
  pub names_are : stages.names (stages.number k) ≡ map (name_of net.par) order
  pub end : ℕ → End
  pub ends_are : (net_at stages k).ends ≡ map end order
  pub stands : (j : ℕ) → j < length net.par.nodes → end j ≡ stage_end x stages k (stands_for x k net.par j)
  pub above : (u : ℕ) → u < length (heads (forest x)) → is_end x.problem x.cells (head x u) (head x k) ≡ true
      → (net_at stages k).above ≡ Some (stages.number u)

-- so are all stages, by different numbers; the root's is driven from outside
pub record AreTimedStages (x : Split) (new : Design) (stages : StageNets) : Type 0 where
  pub each : (k : ℕ) → k < length (heads (forest x)) → IsTimedStage x new stages k
  pub once : (k u : ℕ) → k < length (heads (forest x)) → u < length (heads (forest x))
      → stages.number k ≡ stages.number u → k ≡ u
  pub first : (net_at stages 0).above ≡ None

-- then they are the nets that the placement cuts the net into
abbrev pub StagesAreCut : Type 0
StagesAreCut = (d : Design) (n : Joined) (x : Split) → IsSplitOf d n x → (new : Design) (stages : StageNets)
    → AreTimedStages x new stages → AreCut x.problem x.cells (pieces_of x stages)
